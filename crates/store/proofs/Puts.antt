-- Laws of puts. Assumes nothing.
use Rattle.std.proofs.Common.{◌≡◌, ℕ, suc, ◌+◌, ◌<◌, ◌≤◌, List, [], ◌∷◌, ◌++◌, length, get_or, take, drop, set, sym, refl, ap, ◌∙◌, arith, length-append, length-set}
use Rattle.std.proofs.lemmas.List.{length-take-le, take_at, take_more}
use Rattle.std.proofs.lemmas.List.Edits.{sets, sets-eq}
use Rattle.store.specs.Puts.{applied, puts}

-- puts leave the length
pub length-applied : (ps : List (ℕ × ℕ)) (xs : List ℕ) → length (applied ps xs) ≡ length xs
length-applied [] xs = refl
length-applied (p ∷ ps) xs = length-applied ps (set xs p.0 p.1) ∙ length-set xs p.0 p.1

-- puts after puts
pub applied-append : (ps qs : List (ℕ × ℕ)) (xs : List ℕ) → applied (ps ++ qs) xs ≡ applied qs (applied ps xs)
applied-append [] qs xs = refl
applied-append (p ∷ ps) qs xs = applied-append ps qs (set xs p.0 p.1)

applied_sets : (hs xs : List ℕ) (p : ℕ) → applied (puts p hs) xs ≡ sets xs p hs
applied_sets [] xs p = refl
applied_sets (h ∷ hs) xs p = applied_sets hs (set xs p h) (suc p)

-- halfwords put from p up stand there, and all else is as it was
pub applied-puts : (p : ℕ) (hs xs : List ℕ) → p + length hs ≤ length xs → applied (puts p hs) xs ≡ take p xs ++ hs ++ drop (p + length hs) xs
applied-puts p hs xs l = applied_sets hs xs p ∙ sets-eq hs xs p l

-- up to their end: what stood before p, and then the halfwords
pub take-applied-puts : (p : ℕ) (hs xs : List ℕ) → p + length hs ≤ length xs → take (p + length hs) (applied (puts p hs) xs) ≡ take p xs ++ hs
take-applied-puts p hs xs l =
    let n : length (take p xs) ≡ p = length-take-le p xs (omega arith) in
    ap (take (p + length hs)) (applied-puts p hs xs l)
    ∙ take_at (take p xs ++ hs) (drop (p + length hs) xs) (p + length hs) (omega (arith, length-append (take p xs) hs))

puts_push : (p : ℕ) (hs : List ℕ) (h : ℕ) → puts p (hs ++ (h ∷ [])) ≡ puts p hs ++ ((p + length hs, h) ∷ [])
puts_push p [] h = ap (λ n. (n, h) ∷ []) (omega arith)
puts_push p (x ∷ hs) h = ap (λ t. (p, x) ∷ t) (puts_push (suc p) hs h ∙ ap (λ n. puts (suc p) hs ++ ((n, h) ∷ [])) (omega arith))

-- one halfword more of a list, put after those before it
pub applied_more : (p : ℕ) (list : List ℕ) (i : ℕ) (xs ys zs : List ℕ) → i < length list → ys ≡ applied (puts p (take i list)) xs → zs ≡ set ys (p + i) (get_or list i 0) → zs ≡ applied (puts p (take (i + 1) list)) xs
applied_more p list i xs ys zs l e f =
    let h = get_or list i 0 in
    let front = take i list in
    let n : length front ≡ i = length-take-le i list (omega arith) in
    f
    ∙ ap (λ t. set t (p + i) h) e
    ∙ ap (λ k. set (applied (puts p front) xs) (p + k) h) (sym n)
    ∙ sym (applied-append (puts p front) ((p + length front, h) ∷ []) xs)
    ∙ ap (λ t. applied t xs) (sym (puts_push p front h))
    ∙ ap (λ t. applied (puts p t) xs) (sym (take_more list i 0 l))
