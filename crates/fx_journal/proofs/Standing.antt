-- One block at a place of the stream.
use Rattle.std.proofs.Common.{◌≡◌, ℕ, ◌+◌, ◌^◌, ◌<◌, List, ◌++◌, length, take, drop, refl, sym, ap, subst, ◌∙◌, arith, length-drop}
use Rattle.std.proofs.lemmas.List.{take-append-le, drop-append-le}
use Rattle.byteorder.specs.Endian.{little_bytes}
use Rattle.fx_sum.specs.Checksum.{fletch}
use Rattle.fx_jblock.specs.Block.{body, Holds, Continues, Judged}
use Rattle.fx_jblock.specs.declared.Start.{Start}
use Rattle.fx_jblock.specs.declared.Fit.TheVariants.{Fits}
use Rattle.fx_jblock.proofs.Bodies.{body_has_fields, length-body}
use Rattle.fx_jblock.proofs.Judging.{same_body, continues_body}
use Rattle.fx_journal.specs.declared.stream.StreamBlock.{StreamBlock}
use Rattle.fx_journal.specs.Stream.{place_after, StandsAs, MayFollow}

-- the record bytes stand in the block from byte 24 on
text_in_block : (block : List ℕ) (s e chain : ℕ) (text : List ℕ) → s < 2 ^ 64 → e < 2 ^ 64 → Holds block s e chain text → take (length text) (drop 24 block) ≡ text
text_in_block block s e chain text hs he h =
    let front = body s e text in
    let sum = little_bytes 8 (fletch chain front) in
    let long : length front ≡ 4088 = length-body s e text h.room in
    let cut : drop 24 (front ++ sum) ≡ drop 24 front ++ sum = drop-append-le 24 front sum (omega arith) in
    let within : take (length text) (drop 24 front ++ sum) ≡ take (length text) (drop 24 front) = take-append-le (length text) (drop 24 front) sum (omega (arith, length-drop 24 front, h.room)) in
    ap (λ (b : List ℕ). take (length text) (drop 24 b)) h.bytes ∙ ap (take (length text)) cut ∙ within ∙ (body_has_fields s e text hs he h.room).1

abbrev pub make : ℕ → ℕ → List ℕ → StreamBlock
make sequence epoch records = record { sequence = sequence; epoch = epoch; records = records }

same_parts : (x y : StreamBlock) → x.sequence ≡ y.sequence → x.epoch ≡ y.epoch → x.records ≡ y.records → x ≡ y
same_parts x y s e r =
    ap (λ (n : ℕ). make n x.epoch x.records) s ∙ ap (λ (n : ℕ). make y.sequence n x.records) e ∙ ap (make y.sequence y.epoch) r

-- one block stands in given bytes
pub one_block : (bytes : List ℕ) (generation : ℕ) (place : Start) (x y : StreamBlock) → generation < 2 ^ 64 → place.sequence < 2 ^ 64 → StandsAs bytes generation place x → StandsAs bytes generation place y → x ≡ y
one_block bytes generation place x y hg hs p q =
    let one = same_body (take 4088 bytes) place.sequence x.epoch y.epoch x.records y.records hs
    (continues_body bytes place.sequence place.floor generation place.chain x.epoch x.records hg p.continues)
    (continues_body bytes place.sequence place.floor generation place.chain y.epoch y.records hg q.continues) in
    same_parts x y (p.sequence ∙ sym q.sequence) one.0 one.1

pub may_follow : (bytes : List ℕ) (generation : ℕ) (place : Start) (block : StreamBlock) → StandsAs bytes generation place block → MayFollow generation place block
may_follow bytes generation place block h = record {
  sequence = h.sequence;
  filled = h.continues.holds.filled;
  room = h.continues.holds.room;
  begun = h.continues.holds.begun;
  least = h.continues.least;
  most = h.continues.most;
}

abbrev pub block_at : Start → ℕ → List ℕ → StreamBlock
block_at place epoch records = make place.sequence epoch records

abbrev pub place_past : Start → ℕ → ℕ → Start
place_past place after epoch = record { sequence = place.sequence + 1; chain = after; floor = epoch }

-- a block that fits, with the bytes from byte 24 on, stands at its place
pub stands_as : (bytes : List ℕ) (generation : ℕ) (place : Start) (after epoch used : ℕ) (records : List ℕ) → generation < 2 ^ 64 → place.sequence < 2 ^ 64
    → records ≡ take used (drop 24 bytes) → Judged bytes place.sequence place.floor generation place.chain (Fits after epoch used)
    → StandsAs bytes generation place (block_at place epoch records) × (place_past place after epoch ≡ place_after place (block_at place epoch records))
stands_as bytes generation place after epoch used records hg hs are judged =
    let text : List ℕ = judged.0 in
    let continues = judged.3 in
    let stands = continues_body bytes place.sequence place.floor generation place.chain epoch text hg continues in
    let same : records ≡ text = are ∙ ap (λ (n : ℕ). take n (drop 24 bytes)) (sym judged.1) ∙ text_in_block bytes place.sequence epoch place.chain text hs stands.fits continues.holds in
    let chain_is : after ≡ fletch place.chain (body place.sequence epoch records) =
    judged.2 ∙ ap (fletch place.chain) (stands.bytes_are ∙ ap (body place.sequence epoch) (sym same)) in (
      record {
        sequence = refl;
        continues = subst (Continues bytes place.sequence place.floor generation place.chain epoch) (sym same) continues;
      },
      ap (λ (x : ℕ). place_past place x epoch) chain_is,
    )
