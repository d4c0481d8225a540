use Rattle.std.proofs.Common.{◌≡◌, ◌⊎◌, Bool, true, false, List, ℕ, sym, ap, ◌∙◌, subst, All}
use Rattle.std.specs.Prelude.{is_some}
use Rattle.fx_item.specs.Name.{has_byte}
use Rattle.fx_script.specs.Cut.{cut_rest}
use Rattle.fx_script.proofs.Found.{searched}
use Rattle.fx_script.proofs.pieces.Pieces.may_have.Goals as goal

pub returns-in-Some : goal.returns-in-Some
returns-in-Some c =
    let pieces = c.self.inside in
    let byte = c.args.byte in
    subst (λ (b : Bool). (b ≡ true) ⊎ All (λ piece. has_byte byte piece ≡ false) c.args.self.now) (sym c.is_some.ensures)
    (subst (λ (left : List (List ℕ)). (is_some c.memchr.result ≡ true) ⊎ All (λ piece. has_byte byte piece ≡ false) left)
    (sym (ap (cut_rest pieces.separator) c.in-Some.is) ∙ c.self.view_is)
    (searched byte pieces.separator c.in-Some.rest.now c.memchr.result c.memchr.ensures))
