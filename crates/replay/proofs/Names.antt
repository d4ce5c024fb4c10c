-- A look-up in a table of names.
use Rattle.std.proofs.Common.{◌≡◌, ℕ, Bool, true, false, cond, List, [], ◌∷◌, map, Some, Option, refl, ap, Bor}
use Rattle.std.specs.List.{find}
use Rattle.std.specs.Option.{option_map}
use Rattle.std.specs.Str.{bytes_eq}
use Rattle.replay.specs.Names.{meant}

either : {A B C : Type 0} (f : A → C) (g : B → C) (b : Bool) (x : A) (y : B) (o : Option A) (p : Option B) → f x ≡ g y → option_map f o ≡ option_map g p → option_map f (cond b (Some x) o) ≡ option_map g (cond b (Some y) p)
either f g true x y o p e h = ap Some e
either f g false x y o p e h = h

-- names behind references are found as the names are
pub meant-map : {A : Type 0} (xs : List (Bor (List ℕ) × A)) (t : List ℕ) → option_map (λ e. e.1) (find (λ e. bytes_eq e.0.now t) xs) ≡ meant (map (λ e. (e.0.now, e.1)) xs) t
meant-map [] t = refl
meant-map {A} (e ∷ es) t = either (λ (x : Bor (List ℕ) × A). x.1) (λ (x : List ℕ × A). x.1) (bytes_eq e.0.now t) e (e.0.now, e.1) _ _ refl (meant-map es t)
