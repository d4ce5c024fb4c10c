-- Text written piece by piece. Assumes nothing.
use Rattle.std.proofs.Common.{◌≡◌, ℕ, ◌+◌, ◌<◌, List, [], ◌∷◌, ◌++◌, map, length, get_or, take, drop, Some, None, Option, refl, sym, ap, ap₂, ◌∙◌, append_assoc}
use Rattle.std.specs.Io.KnownBytes.{Appends}
use Rattle.std.proofs.lemmas.List.{take_more, drop-drop, drop-map, append-nil}
use Rattle.text.specs.Lines.{Line}
use Rattle.text.specs.Written.{hex}
use Rattle.lives.specs.declared.types.Entry.{Entry}
use Rattle.scripts.specs.Lines.{Saying, said_of}
use Rattle.scripts.specs.Script.{text_of, says, line_text, left, answers_text, answer_of, halves_text}

pub joined : (a b c : Option (List ℕ)) (xs ys : List ℕ) → Appends a b xs → Appends b c ys → Appends a c (xs ++ ys)
joined None b c xs ys p q = tt
joined (Some s) None c xs ys p q = absurd p
joined (Some s) (Some t) None xs ys p q = absurd q
joined (Some s) (Some t) (Some u) xs ys p q = q ∙ ap (λ z. z ++ ys) p ∙ append_assoc s xs ys

halves_both : (xs ys : List ℕ) → halves_text (xs ++ ys) ≡ halves_text xs ++ halves_text ys
halves_both [] ys = refl
halves_both (x ∷ xs) ys = ap (λ z. 32 ∷ (hex 4 x ++ z)) (halves_both xs ys) ∙ ap (λ z. 32 ∷ z) (sym (append_assoc (hex 4 x) (halves_text xs) (halves_text ys)))

-- one halfword more
pub halves_more : (hs : List ℕ) (k : ℕ) → k < length hs → halves_text (take (k + 1) hs) ≡ halves_text (take k hs) ++ (32 ∷ hex 4 (get_or hs k 0))
halves_more hs k h =
    ap halves_text (take_more hs k 0 h) ∙ halves_both (take k hs) (get_or hs k 0 ∷ []) ∙ ap (λ z. halves_text (take k hs) ++ (32 ∷ z)) (append-nil (hex 4 (get_or hs k 0)))

-- one line more, answered by the first of the answers `ts` that are left
pub line_more : (all text : List ℕ) (ls ms : List Line) (l : Line) (s : Saying) (es ts : List Entry) (d n : ℕ) → ts ≡ drop d es → ls ≡ l ∷ ms → s ≡ said_of (text_of l) →
    drop n (map answer_of ts) ≡ left s (map answer_of ts) → all ≡ text ++ answers_text (says ls) (drop d (map answer_of es)) →
    all ≡ (text ++ line_text s (map answer_of ts)) ++ answers_text (says ms) (drop (d + n) (map answer_of es))
line_more all text ls ms l s es ts d n w e q f h =
    let rs = map answer_of ts in
    let m : drop d (map answer_of es) ≡ rs = drop-map answer_of d es ∙ ap (map answer_of) (sym w) in
    let k : left s rs ≡ drop (d + n) (map answer_of es) = sym f ∙ ap (drop n) (sym m) ∙ drop-drop n d (map answer_of es) in
    h
    ∙ ap₂ (λ x y. text ++ answers_text (says x) y) e m
    ∙ ap (λ x. text ++ (line_text x rs ++ answers_text (says ms) (left x rs))) (sym q)
    ∙ ap (λ x. text ++ (line_text s rs ++ answers_text (says ms) x)) k
    ∙ sym (append_assoc text (line_text s rs) (answers_text (says ms) (drop (d + n) (map answer_of es))))
