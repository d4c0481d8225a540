use Rattle.std.proofs.Common.{subst, inl, inr}
use Rattle.std.specs.Prelude.{Err}
use Rattle.fx_super.specs.declared.decode.SuperFault.{SuperFault}
use Rattle.fx_super.specs.Super.{Decoded}
use Rattle.fx_mount.specs.Found.{first_slot, second_slot}
use Rattle.fx_mount.proofs.Finding.{neither}
use Rattle.fx_mount.proofs.find.missing.Goals as goal

pub returns-in-Version-default : goal.returns-in-Version-default
returns-in-Version-default c image size two d e =
    (two, neither image c.args.first c.args.second d e, inl (subst (λ (x : SuperFault). Decoded (first_slot image) (Err x)) c.in-Version-default.is-0 d))

pub returns-in-Bad-Version : goal.returns-in-Bad-Version
returns-in-Bad-Version c image size two d e =
    let bad = subst (λ (x : SuperFault). Decoded (first_slot image) (Err x)) c.in-Bad-Version.is-0 d in
    (two, neither image c.args.first c.args.second d e, inr (bad.1, subst (λ (x : SuperFault). Decoded (second_slot image) (Err x)) c.in-Bad-Version.is-1 e))
