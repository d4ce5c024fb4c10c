-- The marked cases, the others, and examples of the manuals.
use Rattle.std.specs.Prelude.{List, [], ◌∷◌, ℤ, pos, negsuc, codes}
use Rattle.instructions.specs.declared.fields.Fields.{Fields}
use Rattle.cases.specs.declared.made.Parts.{Parts}
use Rattle.cases.specs.Claims.{Claim, has_word, is_refused, has_parts, has_none}

abbrev given : ℤ → ℤ → ℤ → ℤ → ℤ → Fields
given rd rs1 rs2 imm masked = record { d = rd; a = rs1; b = rs2; n = imm; m = masked }

abbrev parts : ℤ → ℤ → Parts
parts high low = record { high = high; low = low }

abbrev pub marked : List Claim
marked =
    has_word (codes "add") (given (pos 3) (pos 1) (pos 2) (pos 0) (pos 0)) 0x002081b3
    ∷ has_word (codes "VaddVV") (given (pos 1) (pos 3) (pos 2) (pos 0) (pos 0)) 0x022180d7
    ∷ has_word (codes "vle32") (given (pos 8) (pos 10) (pos 0) (pos 0) (pos 0)) 0x02056407
    ∷ has_word (codes "CJ") (given (pos 0) (pos 0) (pos 0) (pos 64) (pos 0)) 0xa081
    ∷ has_word (codes "CJ") (given (pos 0) (pos 0) (pos 0) (negsuc 1) (pos 0)) 0xbffd
    ∷ has_word (codes "CMv") (given (pos 10) (pos 0) (pos 11) (pos 0) (pos 0)) 0x852e
    ∷ has_word (codes "CLwsp") (given (pos 1) (pos 0) (pos 0) (pos 64) (pos 0)) 0x4086
    -- 2048 is 4096 - 2048, and -2049 is -4096 + 2047
    ∷ has_parts (pos 2048) (parts (pos 1) (negsuc 2047))
    ∷ has_parts (negsuc 2048) (parts (negsuc 0) (pos 2047))
    ∷ []

abbrev pub others : List Claim
others =
    -- the greatest number that a pair makes, and the next
    has_parts (pos 2147481599) (parts (pos 524287) (pos 2047))
    ∷ has_none (pos 2147481600)
    -- masked, into v0: an addition may not, a comparison may
    ∷ is_refused (codes "VaddVV") (given (pos 0) (pos 3) (pos 2) (pos 0) (pos 1)) 4
    ∷ has_word (codes "VmseqVV") (given (pos 0) (pos 3) (pos 2) (pos 0) (pos 1)) 0x60218057
    ∷ []

-- what the manuals write as other instructions: NOP, the pseudoinstructions of the base set and of vectors
abbrev pub examples : List Claim
examples =
    -- nop
    has_word (codes "addi") (given (pos 0) (pos 0) (pos 0) (pos 0) (pos 0)) 0x00000013
    -- mv x5, x6
    ∷ has_word (codes "addi") (given (pos 5) (pos 6) (pos 0) (pos 0) (pos 0)) 0x00030293
    -- not x5, x6
    ∷ has_word (codes "xori") (given (pos 5) (pos 6) (pos 0) (negsuc 0) (pos 0)) 0xfff34293
    -- neg x5, x6
    ∷ has_word (codes "sub") (given (pos 5) (pos 0) (pos 6) (pos 0) (pos 0)) 0x406002b3
    -- seqz x5, x6
    ∷ has_word (codes "sltiu") (given (pos 5) (pos 6) (pos 0) (pos 1) (pos 0)) 0x00133293
    -- snez x5, x6
    ∷ has_word (codes "sltu") (given (pos 5) (pos 0) (pos 6) (pos 0) (pos 0)) 0x006032b3
    -- sltz x5, x6
    ∷ has_word (codes "slt") (given (pos 5) (pos 6) (pos 0) (pos 0) (pos 0)) 0x000322b3
    -- sgtz x5, x6
    ∷ has_word (codes "slt") (given (pos 5) (pos 0) (pos 6) (pos 0) (pos 0)) 0x006022b3
    -- beqz x5, 16 bytes on
    ∷ has_word (codes "beq") (given (pos 0) (pos 5) (pos 0) (pos 16) (pos 0)) 0x00028863
    -- j, 4 bytes back
    ∷ has_word (codes "jal") (given (pos 0) (pos 0) (pos 0) (negsuc 3) (pos 0)) 0xffdff06f
    -- ret
    ∷ has_word (codes "jalr") (given (pos 0) (pos 1) (pos 0) (pos 0) (pos 0)) 0x00008067
    -- vneg.v v1, v2
    ∷ has_word (codes "VrsubVX") (given (pos 1) (pos 0) (pos 2) (pos 0) (pos 0)) 0x0e2040d7
    -- vnot.v v1, v2
    ∷ has_word (codes "VxorVI") (given (pos 1) (pos 0) (pos 2) (negsuc 0) (pos 0)) 0x2e2fb0d7
    -- vwcvt.x.x.v v2, v4
    ∷ has_word (codes "VwaddVX") (given (pos 2) (pos 0) (pos 4) (pos 0) (pos 0)) 0xc6406157
    -- vmmv.m v1, v2
    ∷ has_word (codes "VmandMM") (given (pos 1) (pos 2) (pos 2) (pos 0) (pos 0)) 0x662120d7
    -- vmnot.m v1, v2
    ∷ has_word (codes "VmnandMM") (given (pos 1) (pos 2) (pos 2) (pos 0) (pos 0)) 0x762120d7
    -- ret
    ∷ has_word (codes "CJr") (given (pos 0) (pos 1) (pos 0) (pos 0) (pos 0)) 0x8082
    -- c.ebreak
    ∷ has_word (codes "CEbreak") (given (pos 0) (pos 0) (pos 0) (pos 0) (pos 0)) 0x9002
    ∷ []
