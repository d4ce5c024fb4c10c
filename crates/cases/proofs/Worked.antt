-- The worked cases hold: each is computed.
use Rattle.std.proofs.Common.{refl}
use Rattle.std.specs.List.{AllByRecursion}
use Rattle.operations.specs.Manual.{operations}
use Rattle.cases.specs.Claims.{Holds}
use Rattle.cases.specs.Marked.{marked, others, examples}

pub marked_hold : AllByRecursion Holds marked
unfolding operations
marked_hold = (refl, (refl, (refl, (refl, (refl, (refl, (refl, (refl, (refl, tt)))))))))

pub others_hold : AllByRecursion Holds others
unfolding operations
others_hold = (refl, (refl, (refl, (refl, tt))))

pub examples_hold : AllByRecursion Holds examples
unfolding operations
examples_hold = (refl, (refl, (refl, (refl, (refl, (refl, (refl, (refl, (refl, (refl, (refl, (refl, (refl, (refl, (refl, (refl, (refl, (refl, tt))))))))))))))))))
