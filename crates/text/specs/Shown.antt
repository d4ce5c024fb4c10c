use Rattle.text.specs.Fields.{Part, word_part, number_part, empty_part}
use Rattle.text.specs.declared.fields.Field.{Field}
use Rattle.text.specs.declared.fields.Field.TheVariants.{Word, Number, Empty}

-- a field as its text and place
abbrev pub shown : Field → Part
shown (Word t p) = word_part t.now p
shown (Number t p) = number_part t.now p
shown (Empty p) = empty_part p
