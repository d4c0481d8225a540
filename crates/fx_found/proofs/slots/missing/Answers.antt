use Rattle.std.proofs.Common.{subst, inl, inr}
use Rattle.std.specs.Prelude.{Err}
use Rattle.fx_super.specs.declared.decode.SuperFault.{SuperFault}
use Rattle.fx_super.specs.Super.{Decoded}
use Rattle.fx_super.specs.Chosen.{block_of}
use Rattle.fx_super.specs.declared.choice.Which.TheVariants.{A, B}
use Rattle.fx_found.proofs.Supers.{neither}
use Rattle.fx_found.proofs.slots.missing.Goals as goal

pub returns-in-Version-default-clause-fault : goal.returns-in-Version-default-clause-fault
returns-in-Version-default-clause-fault c image size two s =
    (two, (neither image c.args.first c.args.second s, inl (subst (λ (x : SuperFault). Decoded (block_of image A) (Err x)) c.in-Version-default.is-0 s.first_is)))

pub returns-in-Bad-Version-clause-fault : goal.returns-in-Bad-Version-clause-fault
returns-in-Bad-Version-clause-fault c image size two s =
    let bad = subst (λ (x : SuperFault). Decoded (block_of image A) (Err x)) c.in-Bad-Version.is-0 s.first_is in
    (two, (neither image c.args.first c.args.second s, inr (bad.1, subst (λ (x : SuperFault). Decoded (block_of image B) (Err x)) c.in-Bad-Version.is-1 s.second_is)))
