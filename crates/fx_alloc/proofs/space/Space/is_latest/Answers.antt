use Rattle.std.proofs.Common.{◌≡◌, ℕ, ◌<◌, ◌≤◌, ◌-◌, ◌∙◌, refl, sym, ap, subst, arith, length, get_or, leb-true}
use Rattle.std.proofs.lemmas.Bool.{false≢true}
use Rattle.fx_alloc.specs.declared.uses.Waiting.{Waiting}
use Rattle.fx_alloc.specs.Space.{Space, IsLatest}
use Rattle.fx_alloc.proofs.SpaceMoves.{IsLatest-last, at_most}
use Rattle.fx_alloc.proofs.space.Space.is_latest.Goals as goal

pub returns-in-Some : goal.returns-in-Some
returns-in-Some c =
    let last : c.in-Some.last.now ≡ get_or c.self.inside.waiting.items (length c.self.inside.waiting.items - 1) c.in-Some.last.now =
    c.in-Some.ensures.lookup ∙ ap (λ (n : ℕ). get_or c.self.inside.waiting.items (n - 1) c.in-Some.last.now) c.self.inside.waiting.ok.0 in
    let some : 0 < length c.self.inside.waiting.items = omega (arith, c.in-Some.ensures.variant.0 refl, c.self.inside.waiting.ok.0) in (
      λ h. subst (λ (s : Space). IsLatest c.args.number s.waiting) c.self.view_is
          (IsLatest-last c.args.number c.self.inside.waiting.items c.in-Some.last.now c.self.invariant.0.rising last
          (leb-true c.in-Some.last.now.number c.args.number h)),
      λ h. at_most c.in-Some.last.now.number c.args.number
          (let all : IsLatest c.args.number c.self.inside.waiting.items = subst (λ (s : Space). IsLatest c.args.number s.waiting) (sym c.self.view_is) h in
          subst (λ (w : Waiting). w.number ≤ c.args.number) (sym last) (all (length c.self.inside.waiting.items - 1) c.in-Some.last.now (omega (arith, some)))),
    )

pub returns-in-None : goal.returns-in-None
returns-in-None c = (
  λ h. subst (λ (s : Space). IsLatest c.args.number s.waiting) c.self.view_is
      (λ k d l. absurd (false≢true (c.in-None.ensures.variant.1 (omega (arith, l, c.self.inside.waiting.ok.0))))),
  λ h. refl,
)
