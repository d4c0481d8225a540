-- What a format leaves is an image with the root alone.
use Rattle.std.proofs.Common.{◌≡◌, inr, ℕ, ◌+◌, ◌-◌, ◌%◌, ◌^◌, ◌<◌, ◌≤◌, zero, suc, List, [], drop, get_or, lit<, lit≤, refl, replicate, sym, ap, subst, ◌∙◌, arith}
use Rattle.std.specs.Prelude.{IfSome, None, Option, Some}
use Rattle.std.proofs.lemmas.List.{drop-replicate, take-replicate}
use Rattle.std.proofs.Math.Nat.{mod-lt}
use Rattle.byteorder.specs.Endian.{little_number}
use Rattle.fx_disk.specs.Record.{DiskRecord, LeftNow}
use Rattle.fx_disk.specs.Longer.{BothTell}
use Rattle.fx_disk.specs.Settled.{IsSettled}
use Rattle.fx_disk.specs.Steps.{IsRecordOf}
use Rattle.fx_disk.proofs.Records.{reads-alone}
use Rattle.fx_plain.specs.Tree.{root}
use Rattle.fx_namespace.proofs.Empty as empty
use Rattle.fx_namespace.specs.Trees.{bare}
use Rattle.fx_jblock.specs.Block.{Continues, body}
use Rattle.fx_jblock.proofs.Bodies.{body_has_fields}
use Rattle.fx_jblock.proofs.Judging.{continues_body}
use Rattle.fx_journal.specs.declared.stream.StreamBlock.{StreamBlock}
use Rattle.fx_journal.specs.Stream.{IsStream, StandsAt, place_of}
use Rattle.fx_journal.proofs.Runs.{ended_run}
use Rattle.fx_record.specs.Txns.{Nothing}
use Rattle.fx_super.specs.Super.{Fields, IsSuper, first_fields}
use Rattle.fx_super.specs.Chosen.{IsChosen}
use Rattle.fx_super.specs.declared.choice.Which.TheVariants.{A}
use Rattle.fx_super.proofs.Blocks as blocks
use Rattle.fx_super.proofs.Chosen.{zeros_have_no_magic}
use Rattle.fx_log.specs.Chosen.{start_of}
use Rattle.fx_image.specs.Standing.{HasAmpleRoom, IsImage}
use Rattle.fx_mount.specs.Formatted.{IsFormatted, IsLaidOut, LeavesRoot}
use Rattle.fx_base.specs.Blocks.{zero_bytes}
use Rattle.fx_mount.specs.Found.{IsMountable}

-- ---- a block of zeros

zero_at : (n i : ℕ) → get_or {A = ℕ} (replicate n 0) i 0 ≡ 0
zero_at zero i = refl
zero_at (suc n) zero = refl
zero_at (suc n) (suc i) = zero_at n i

zeros_number : (n : ℕ) → little_number 8 (replicate n 0) ≡ 0
zeros_number n = omega (arith, zero_at n 0, zero_at n 1, zero_at n 2, zero_at n 3, zero_at n 4, zero_at n 5, zero_at n 6, zero_at n 7)

-- it is no block of the journal
no_block : (n s floor generation chain e : ℕ) (text : List ℕ) → 4088 ≤ n → s < 2 ^ 64 → generation < 2 ^ 64 → Continues (replicate n 0) s floor generation chain e text → ⊥
no_block n s floor generation chain e text long low few c =
    let is = continues_body (replicate n 0) s floor generation chain e text few c in
    let fields = (body_has_fields s e text low is.fits is.room).0 in
    let same : drop 8 (body s e text) ≡ replicate (4088 - 8) 0 = ap (drop 8) (sym is.bytes_are ∙ take-replicate 4088 n 0 long) ∙ drop-replicate 8 4088 0 in
    omega (arith, is.begun, sym fields.epoch_is ∙ ap (little_number 8) same ∙ zeros_number (4088 - 8))

no_zeros : (s floor generation chain e : ℕ) (text : List ℕ) → s < 2 ^ 64 → generation < 2 ^ 64 → Continues zero_bytes s floor generation chain e text → ⊥
unfolding zero_bytes
no_zeros s floor generation chain e text low few c = no_block 4096 s floor generation chain e text (lit≤ tt) low few c

no_super : (f : Fields) → IsSuper zero_bytes f → ⊥
unfolding zero_bytes
no_super f is = zeros_have_no_magic 4096 (blocks.stands (replicate 4096 0) f is).magic_is

-- ---- the image

module _ (size ring : ℕ) (image : List (List ℕ)) (first : List ℕ) (super : IsSuper first (first_fields size ring)) (here : get_or image 0 [] ≡ first) (zeros : (b : ℕ) → 1 ≤ b → b < ring + 2 → get_or image b [] ≡ zero_bytes) where
  abbrev f : Fields
  f = first_fields size ring

  chosen : IsChosen image A f
  chosen = record {
    is_super = subst (λ (block : List ℕ). IsSuper block f) (sym here) super;
    goes_before = λ g is. absurd (no_super g (subst (λ (block : List ℕ). IsSuper block g) (zeros 1 (omega arith) (omega arith)) is));
  }

  begins_here : 0 % ring < ring
  begins_here = mod-lt 0 (omega (arith, super.rules.ring_least))

  no_more : (block : StreamBlock) → StandsAt image ring 1 (start_of f) block → ⊥
  no_more block s = no_zeros 0 1 1 1 block.epoch block.records (lit< tt) (lit< tt)
      (subst (λ (bytes : List ℕ). Continues bytes 0 1 1 1 block.epoch block.records) (zeros (place_of ring 0) (omega arith) (omega (arith, begins_here))) s.continues)

  no_stream : IsStream image ring 1 (start_of f) [] (start_of f)
  no_stream = ended_run image ring 1 (start_of f) (start_of f) [] (lit< tt) (omega (arith, super.rules.ring_most)) refl (omega arith) (inr no_more)

  is_image : IsImage size image f [] root
  is_image = record {
    chosen = (A, chosen);
    blocks = refl;
    layers = refl;
    stream = [];
    next = start_of f;
    stream_is = no_stream;
    txns_are = record { records = []; read = Nothing; ordered = refl; txns_are = refl };
    stands = record { stands = empty.stands; tree_is = empty.tree bare };
  }

pub has_room : (size ring : ℕ) → HasAmpleRoom (first_fields size ring) []
has_room size ring = record { generations = lit≤ tt; sequences = lit≤ tt; commits = lit≤ tt; ids_left = lit≤ tt; stores_left = lit≤ tt }

module _ (size ring calls : ℕ) (before after : DiskRecord) (settled : IsSettled before) (is : IsRecordOf size calls after) (formatted : IsFormatted size ring before after) where
  laid : IsLaidOut ring formatted.0 before after
  laid = formatted.2

  module _ (image : List (List ℕ)) (left : LeftNow after image) where
    same : image ≡ after.contents
    same = reads-alone size calls after image is (laid.settled settled) left

    pub formatted_mounts : IsMountable size image (first_fields size ring) [] root
    formatted_mounts =
        let rules = formatted.1.rules in
        record {
          slots = omega (arith, rules.blocks_least);
          image_is = is_image size ring image formatted.0 formatted.1 (ap (λ (x : List (List ℕ)). get_or x 0 []) same ∙ laid.first_is)
              (λ b least most. ap (λ (x : List (List ℕ)). get_or x b []) same ∙ laid.zeros b least most);
          room = record { generations = lit≤ tt; sequences = lit≤ tt; commits = lit≤ tt; ids_left = lit≤ tt; stores_left = lit≤ tt };
        }

-- what a disk tells that was formatted leaves the root alone
pub leaves_root : (size ring calls : ℕ) (before after : Option DiskRecord) → IfSome after (IsRecordOf size calls) → BothTell (IsFormatted size ring) before after → BothTell (LeavesRoot size ring) before after
leaves_root size ring calls None after is h = h
leaves_root size ring calls (Some r) after is (s, e, formatted) =
    (s, e, λ settled image left. formatted_mounts size ring calls r s settled (subst (λ (o : Option DiskRecord). IfSome o (IsRecordOf size calls)) e is) formatted image left)
