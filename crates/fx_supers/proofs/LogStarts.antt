-- Where the streams of a log begin, over the blocks that are closed.
use Rattle.std.proofs.Common.{◌≡◌, ℕ, zero, suc, ◌+◌, ◌≤◌, inl, List, [], ◌∷◌, ◌++◌, length, drop, refl, sym, ◌∙◌, ap, arith}
use Rattle.std.specs.Prelude.{Some, None}
use Rattle.std.proofs.lemmas.List.{length-append}
use Rattle.std.proofs.Math.Seq.{drop-length}
use Rattle.fx_super.specs.Super.{Fields}
use Rattle.fx_jblock.specs.declared.Start.{Start}
use Rattle.fx_journal.specs.Ring.{Queued, first_chain}
use Rattle.fx_log.specs.Log.{LogHead}
use Rattle.fx_log.proofs.RingClosed.{first_chain-joined}
use Rattle.fx_supers.specs.Supers.{Origin, SuperCut}
use Rattle.fx_supers.specs.SessionLog.{epoch_of, first_in, AdmitsClosed, BeginsBefore, HasPlacesFrom, IsCutOf, IsNoEarlier, IsStartOf}

pub later-first : (from to : Origin) → IsNoEarlier from to → first_in from ≤ first_in to
later-first None to h = omega arith
later-first (Some n) None h = absurd h
later-first (Some n) (Some m) h = h

pub later-same : (from : Origin) → IsNoEarlier from from
later-same None = tt
later-same (Some n) = omega arith

-- where the places suffice for a start they do for a later one
pub places-later : (head : LogHead) (blocks : List Queued) (from to : Origin) → IsNoEarlier from to → HasPlacesFrom head blocks from → HasPlacesFrom head blocks to
places-later head blocks None None h places = places
places-later head blocks None (Some n) h places = omega (arith, places)
places-later head blocks (Some n) None h places = absurd h
places-later head blocks (Some n) (Some m) h places = omega (arith, places, h)

pub admits-own : (head : LogHead) (blocks : List Queued) (from : Origin) (f : Fields) → epoch_of head ≤ f.generation → AdmitsClosed head blocks from f
admits-own head blocks None f h = inl h
admits-own head blocks (Some n) f h = h

-- a list past its front
drop-joined : (n : ℕ) (xs ys : List Queued) → n ≤ length xs → drop n (xs ++ ys) ≡ drop n xs ++ ys
drop-joined zero xs ys le = refl
drop-joined (suc n) [] ys le = absurd (omega (arith, le))
drop-joined (suc n) (x ∷ xs) ys le = drop-joined n xs ys (omega (arith, le))

-- a start stays one while further blocks are closed
begins-closes : (epoch : ℕ) (place : Start) (blocks more : List Queued) (chain later n : ℕ) (start : Start) → first_chain more later ≡ chain → BeginsBefore epoch place blocks chain n start → BeginsBefore epoch place (blocks ++ more) later n start
begins-closes epoch place blocks more chain later n start first b = record {
  within = omega (arith, b.within, length-append blocks more);
  sequence = b.sequence;
  chain_is = b.chain_is ∙ ap (first_chain (drop n blocks)) (sym first) ∙ sym (ap (λ (qs : List Queued). first_chain qs later) (drop-joined n blocks more b.within) ∙ first_chain-joined (drop n blocks) more later);
  floor = b.floor;
}

start-closes : (head : LogHead) (blocks more : List Queued) (chain later : ℕ) → first_chain more later ≡ chain → (from : Origin) (start : Start) → IsStartOf head blocks chain from start → IsStartOf head (blocks ++ more) later from start
start-closes head blocks more chain later first None start is = is
start-closes head blocks more chain later first (Some n) start is = begins-closes (epoch_of head) head.place blocks more chain later n start first is

-- and so does a superblock of this log, once the one of the mount was raised
pub cut-closes : (head : LogHead) (blocks more : List Queued) (chain later : ℕ) (cut : SuperCut) → first_chain more later ≡ chain → epoch_of head ≤ cut.super.generation → IsCutOf head blocks chain cut → IsCutOf head (blocks ++ more) later cut
cut-closes head blocks more chain later cut first own h = record {
  rules = h.rules;
  ring = h.ring;
  blocks_are = h.blocks_are;
  admits = admits-own head (blocks ++ more) cut.origin cut.super own;
  begins = start-closes head blocks more chain later first cut.origin _ h.begins;
  within = omega (arith, h.within, length-append blocks more);
}

-- a start that a checkpoint may take: after all that was closed, with nothing unfinished
pub begins-now : (head : LogHead) (blocks : List Queued) (chain : ℕ) (start : Start) → start.sequence ≡ head.place.sequence + length blocks → start.chain ≡ chain → start.floor ≡ epoch_of head → IsStartOf head blocks chain (Some (length blocks)) start
begins-now head blocks chain start sequence chain_is floor = record {
  within = omega arith;
  sequence = sequence;
  chain_is = chain_is ∙ sym (ap (λ (qs : List Queued). first_chain qs chain) (drop-length blocks));
  floor = floor;
}
