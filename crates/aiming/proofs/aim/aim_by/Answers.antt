use Rattle.std.proofs.Common.{◌≡◌, ℕ, ◌-◌, ◌^◌, ℤ, pos, negsuc, Some, None, Option, sym, refl, ap, ◌∙◌, subst, w64, to_z, of_z, MatchOption}
use Rattle.std.proofs.lemmas.Int.{to_z-of_z}
use Rattle.bits.specs.declared.part.Values.{Values}
use Rattle.bits.specs.Layout.{word, Fit}
use Rattle.operands.specs.Ranges.{Reach, halved}
use Rattle.operations.specs.declared.row.Allowed.TheVariants.{All}
use Rattle.operations.specs.declared.row.Number.TheVariants.{Signed}
use Rattle.formats.specs.Layouts.{layout}
use Rattle.formats.specs.Reaching.{with_n}
use Rattle.aiming.proofs.Aims.{aimed_in}
use Rattle.aiming.proofs.Distances.{Distances, distances_of}
use Rattle.aiming.proofs.aim.aim_by.Goals as goal

-- none in place of an answer that is due, and an answer that is another
answered : (r : Option ℕ) (P : Type 0) (x : ℕ) → (P → r ≡ Some x) → ((y : ℕ) → r ≡ Some y → P) → MatchOption r (P → ⊥) (λ y. P × (y ≡ x))
answered None P x t f = λ p. let e = t p in cc
answered (Some y) P x t f = let p = f y refl in let e = t p in (p, cc)

pub returns : goal.returns
returns g c =
    let K = g.F.Format.kind in
    let k = layout g.F.Format.kind in
    let W = g.row.WIDTH in
    let z = to_z w64 (of_z w64 c.args.d) in
    let P : ℤ → Type 0 = λ z. (v : Values) → Fit k v → word k v ≡ c.args.w → MatchOption c.retarget.result (Reach W z → ⊥) (λ x. Reach W z × (x ≡ word k (with_n v (halved W z)))) in
    let told : P c.args.d =
    subst P (to_z-of_z w64 c.args.d c.ranges.d)
    (λ v fit e. let o = g.met.F.Format.held v fit in
    answered c.retarget.result (Reach W z) (word k (with_n v (halved W z)))
    (λ p. c.retarget.ensures.taken o.0 o.1.0 (ap (word k) o.1.1 ∙ e) p ∙ ap (λ u. Some (word k (with_n u (halved W z)))) o.1.1)
    (λ y q. (c.retarget.ensures.refused y q).0)) in
    λ n f h t p q j s.
    aimed_in K (negsuc (2 ^ W - 1)) (pos (2 ^ W - 2)) (halved W) j
    (subst (λ w. Distances (Some (Signed w 2 All)) (negsuc (2 ^ W - 1)) (pos (2 ^ W - 2)) (halved W)) (sym s) (distances_of W g.F.Reaching.wide))
    c.args.w c.args.d c.retarget.result told n f h t p q
