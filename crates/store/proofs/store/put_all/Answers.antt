use Rattle.std.proofs.Common.{◌≡◌, ◌+◌, length, take, refl, ap, ◌∙◌, arith}
use Rattle.std.proofs.lemmas.List.{take_all}
use Rattle.store.specs.Puts.{applied, puts}
use Rattle.store.proofs.Answers.{refused_outside}
use Rattle.store.proofs.Puts.{length-applied, applied_more}
use Rattle.store.proofs.store.put_all.Goals as goal

pub overflow_add-place : goal.overflow_add-place
overflow_add-place g c = omega arith

pub returns-in_err-put : goal.returns-in_err-put
returns-in_err-put g c =
    let xs = g.S.Store.halfwords c.args.store.now in
    let before = puts c.args.place (take c.loop-i.i c.args.list.now) in
    let n : length (g.S.Store.halfwords c.loop-i.store) ≡ length xs = ap length c.loop-i.invariant ∙ length-applied before xs in
    let past = refused_outside (g.S.Store.halfwords c.loop-i.store) (c.args.place + c.loop-i.i) _ c.in_err-put.ensures.answer in
    absurd (omega arith)

pub loop-i-preserved : goal.loop-i-preserved
loop-i-preserved g c =
    applied_more c.args.place c.args.list.now c.loop-i.i (g.S.Store.halfwords c.args.store.now) (g.S.Store.halfwords c.loop-i.store) _ c.loop-i-test.true c.loop-i.invariant c.put.ensures.after

pub returns : goal.returns
returns g c =
    let xs = g.S.Store.halfwords c.args.store.now in
    let all = take_all c.loop-i.i c.args.list.now c.loop-i-test.false in
    record { answer = refl; after = c.loop-i.invariant ∙ ap (λ t. applied (puts c.args.place t) xs) all }
