-- The steps of a read move its state on.
use Rattle.std.proofs.Common.{◌≡◌, ℕ, ◌+◌, ◌-◌, ◌<◌, ◌≤◌, true, false, List, [], ◌∷◌, ◌++◌, length, take, drop, Result, Ok, Err, ◌⊎◌, refl, sym, ap, subst, ◌∙◌, arith, inl, inr, length-append, length-take}
use Rattle.std.specs.Prelude.{IsTrue}
use Rattle.std.specs.List.{fold}
use Rattle.std.proofs.lemmas.Bool.{and_from}
use Rattle.std.proofs.lemmas.List.{map-append, take-map, take-append-drop}
use Rattle.std.proofs.lemmas.List.Sums.{fold-append}
use Rattle.fx_item.specs.Item.{PlainItem, items_of}
use Rattle.fx_item.specs.declared.item.Item.{Item}
use Rattle.fx_record.specs.Record.{PlainRecord, DiscardRecord, IsRecord, record_bytes}
use Rattle.fx_record.specs.Reading.{IsCut, HoldsWhole, IsFault}
use Rattle.fx_record.specs.Txns.{txns_of, Nothing, First, Dropped, epoch_texts, may_come, in_order, last_number, put, IsTxns, IsWrong, IsBadRecord}
use Rattle.fx_record.specs.Progress.{ReadState, state_after, IsNumbered, Numbered, Advance, Stopped, Took, NextRead, RunDone, RunRead, IsAnswer, Gave, Told}
use Rattle.fx_record.specs.declared.record.Record.{Record}
use Rattle.fx_record.specs.declared.record.RecordFault.{RecordFault}
use Rattle.fx_record.specs.declared.record.RecordFault.TheVariants as record_faults
use Rattle.fx_record.specs.declared.txns.TxnsFault.{TxnsFault}
use Rattle.fx_record.specs.declared.txns.TxnsFault.TheVariants as faults
use Rattle.fx_record.proofs.Faults.{same_record}
use Rattle.fx_record.proofs.Parts.{record_len}
use Rattle.fx_record.proofs.Numbers.{last_number-append, in_order_join, numbered_push, kept}
use Rattle.fx_record.proofs.Fronts.{front_then, not_cut, one_answer, not_both, one_place}

-- ---- one step after another

pub advance_none : (base : ℕ) (s : ReadState) (ts : List (List ℕ)) → Advance base s ts s ts
advance_none base s ts = record {
  records = [];
  front = Nothing;
  ordered = refl;
  last_is = refl;
  read_is = omega arith;
  txns_are = refl;
}

pub advance_then : (base : ℕ) (s t u : ReadState) (a b c : List (List ℕ)) → Advance base s a t b → Advance base t b u c → Advance base s a u c
advance_then base s t u a b c p q = record {
  records = p.records ++ q.records;
  front = front_then p.front q.front;
  ordered = in_order_join base s.last p.records q.records p.ordered (subst (λ (n : ℕ). IsTrue (in_order base n q.records)) p.last_is q.ordered);
  last_is = q.last_is ∙ ap (λ (n : ℕ). last_number n q.records) p.last_is ∙ sym (last_number-append s.last p.records q.records);
  read_is = omega (arith, p.read_is, q.read_is, length-append p.records q.records);
  txns_are = q.txns_are ∙ ap (λ (w : List (ℕ × List PlainItem)). fold put w q.records) p.txns_are ∙ sym (fold-append put s.txns p.records q.records);
}

pub advance_one : (base : ℕ) (s t : ReadState) (bytes rest : List ℕ) (more : List (List ℕ)) → Took base s bytes t rest → Advance base s (bytes ∷ more) t (rest ∷ more)
advance_one base s t bytes rest more h = record {
  records = h.x ∷ [];
  front = First h.is_record h.parts Nothing;
  ordered = and_from (may_come base s.last h.x) true h.comes refl;
  last_is = ap (λ (w : ReadState). w.last) h.to_is;
  read_is = ap (λ (w : ReadState). w.read) h.to_is;
  txns_are = ap (λ (w : ReadState). w.txns) h.to_is;
}

pub advance_cut : (base : ℕ) (s t : ReadState) (text : List ℕ) (more : List (List ℕ)) → IsCut text → t ≡ s → Advance base s (text ∷ more) t more
advance_cut base s t text more cut e =
    subst (λ (w : ReadState). Advance base s (text ∷ more) w more) (sym e) (record {
      records = [];
      front = Dropped cut Nothing;
      ordered = refl;
      last_is = refl;
      read_is = omega arith;
      txns_are = refl;
    })

pub took_shorter : (base : ℕ) (s t : ReadState) (bytes rest : List ℕ) → Took base s bytes t rest → (length rest < length bytes) × (t.read ≡ s.read + 1)
took_shorter base s t bytes rest h =
    (omega (arith, ap length h.parts, length-append (record_bytes h.x) rest, record_len h.x), ap (λ (w : ReadState). w.read) h.to_is)

pub start_of : ℕ → ReadState
start_of base = record { last = base; read = 0; txns = [] }

-- ---- one record

abbrev Answer : Type 0
Answer = Result (Record × ℕ) RecordFault

whole_of : (e : RecordFault) (bytes : List ℕ) → (e ≡ record_faults.Cut → ⊥) → (e ≡ record_faults.OutOfMemory → ⊥) → (e ≡ record_faults.OutOfMemory) ⊎ IsFault e bytes → HoldsWhole bytes
whole_of record_faults.Cut bytes a b f = absurd (a refl)
whole_of record_faults.OutOfMemory bytes a b f = absurd (b refl)
whole_of record_faults.BadTag bytes a b f = elim f [ inl k ↦ absurd cc | inr k ↦ k.0 ]
whole_of (record_faults.BadItem place) bytes a b f = elim f [ inl k ↦ absurd cc | inr k ↦ k.0 ]

-- Bytes with a fault that is not a cut are wrong whatever the number.
pub wrong_bytes : (base last : ℕ) (bytes : List ℕ) (e : RecordFault) → (e ≡ record_faults.Cut → ⊥) → (e ≡ record_faults.OutOfMemory → ⊥) → (e ≡ record_faults.OutOfMemory) ⊎ IsFault e bytes →
    ((x : PlainRecord) (rest : List ℕ) → IsRecord x → bytes ≡ record_bytes x ++ rest → e ≡ record_faults.OutOfMemory) → IsWrong base last bytes
wrong_bytes base last bytes e a b f only = (
  λ cut. omega (arith, cut, whole_of e bytes a b f),
  λ x rest h parts. absurd (b (only x rest h parts)),
)

-- So are those of a record that may not come.
pub wrong_number : (base last : ℕ) (bytes : List ℕ) (x : PlainRecord) (n : ℕ) → IsRecord x → take n bytes ≡ record_bytes x → may_come base last x ≡ false → IsWrong base last bytes
wrong_number base last bytes x n h front fails =
    let parts : bytes ≡ record_bytes x ++ drop n bytes = sym (take-append-drop n bytes) ∙ ap (λ (w : List ℕ). w ++ drop n bytes) front in (
      not_cut bytes (drop n bytes) x h parts,
      λ y rest g others. ap (may_come base last) (sym (same_record x y (drop n bytes) rest h g (sym parts ∙ others))) ∙ fails,
    )

pub took : (base : ℕ) (s t : ReadState) (bytes rest : List ℕ) (x : PlainRecord) (n : ℕ) → IsRecord x → take n bytes ≡ record_bytes x → rest ≡ drop n bytes → IsTrue (may_come base s.last x) → t ≡ state_after s x → Numbered base t → Took base s bytes t rest
took base s t bytes rest x n h front left comes moved numbered = record {
  x = x;
  is_record = h;
  parts = sym (take-append-drop n bytes) ∙ ap (λ (w : List ℕ). w ++ drop n bytes) front ∙ ap (λ (w : List ℕ). record_bytes x ++ w) (sym left);
  comes = comes;
  to_is = moved;
  numbered = numbered;
}

pub some_bytes : (bytes : List ℕ) (n : ℕ) (x : PlainRecord) → take n bytes ≡ record_bytes x → 4 ≤ length bytes
some_bytes bytes n x e = omega (arith, ap length e, length-take n bytes, record_len x)

abbrev RawTxns : Type 0
RawTxns = List (ℕ × List Item)

abbrev plain : ℕ × List Item → ℕ × List PlainItem
plain t = (t.0, items_of t.1)

pub numbered_more : (base last number : ℕ) (old new : RawTxns) (items : List Item) → number ≡ last + 1 → new ≡ old ++ (number, items) ∷ [] → IsNumbered base (txns_of old) last → IsNumbered base (txns_of new) number
numbered_more base last number old new items next grown h =
    subst (λ (w : List (ℕ × List PlainItem)). IsNumbered base w number) (sym (ap txns_of grown ∙ map-append plain old ((number, items) ∷ [])))
    (numbered_push base last number (items_of items) (txns_of old) next h)

pub discarded : (base last number : ℕ) (old new : RawTxns) → new ≡ take (number - base) old → IsNumbered base (txns_of old) last → base ≤ number → number ≤ last →
    (txns_of new ≡ put (txns_of old) (DiscardRecord number)) × IsNumbered base (txns_of new) number
discarded base last number old new cut h least most =
    let k = kept base number last (txns_of old) h least most in
    let same : txns_of new ≡ put (txns_of old) (DiscardRecord number) = ap txns_of cut ∙ sym (take-map plain (number - base) old) ∙ sym k.0 in
    (same, subst (λ (w : List (ℕ × List PlainItem)). IsNumbered base w number) (sym same) k.1)

-- ---- the bytes of one epoch

pub stop_here : (base : ℕ) (s t : ReadState) (text rest : List ℕ) (place : ℕ) → ((more : List (List ℕ)) → Advance base s (text ∷ more) t (rest ∷ more)) → place ≡ t.read → IsWrong base t.last rest →
    (more : List (List ℕ)) → Stopped base s (text ∷ more) place
stop_here base s t text rest place adv e wrong more = record { to = t; text = rest; more = more; advance = adv more; wrong = wrong; place_is = sym e }

pub run_stops : (e : TxnsFault) (base : ℕ) (s t u v : ReadState) (text rest : List ℕ) → ((more : List (List ℕ)) → Advance base s (text ∷ more) t (rest ∷ more)) →
    NextRead base t rest u (Err e) → RunRead base s text v (Err e)
run_stops (faults.BadRecord place) base s t u v text rest adv h = stop_here base s t text rest place adv h.0 h.1
run_stops faults.OutOfMemory base s t u v text rest adv h = tt

pub run_goes_on : (base : ℕ) (s t u : ReadState) (text rest left : List ℕ) → ((more : List (List ℕ)) → Advance base s (text ∷ more) t (rest ∷ more)) → Took base t rest u left →
    (more : List (List ℕ)) → Advance base s (text ∷ more) u (left ∷ more)
run_goes_on base s t u text rest left adv h more =
    advance_then base s t u (text ∷ more) (rest ∷ more) (left ∷ more) (adv more) (advance_one base t u rest left more h)

pub run_ends : (base : ℕ) (s t u : ReadState) (text rest : List ℕ) → ((more : List (List ℕ)) → Advance base s (text ∷ more) t (rest ∷ more)) → Numbered base t → t.read + length rest ≤ s.read + length text →
    IsCut rest × (u ≡ t) → RunDone base s text u
run_ends base s t u text rest adv numbered few h = record {
  advance = λ more. advance_then base s t u (text ∷ more) (rest ∷ more) more (adv more) (advance_cut base t u rest more h.0 h.1);
  numbered = subst (Numbered base) (sym h.1) numbered;
  few = omega (arith, few, ap (λ (w : ReadState). w.read) h.1);
}

-- ---- the stream

pub stream_goes_on : (base : ℕ) (t u : ReadState) (blocks : List (ℕ × List ℕ)) (all : List (List ℕ)) (text : List ℕ) (more : List (List ℕ)) → Advance base (start_of base) (epoch_texts blocks) t all → all ≡ text ∷ more → RunDone base t text u →
    Advance base (start_of base) (epoch_texts blocks) u more
stream_goes_on base t u blocks all text more adv e h =
    advance_then base (start_of base) t u (epoch_texts blocks) (text ∷ more) more (subst (Advance base (start_of base) (epoch_texts blocks) t) e adv) (h.advance more)

pub read_to_end : (base : ℕ) (blocks : List (ℕ × List ℕ)) (t : ReadState) → Advance base (start_of base) (epoch_texts blocks) t [] → IsTxns base blocks t.txns
unfolding start_of
read_to_end base blocks t adv = record { records = adv.records; read = adv.front; ordered = adv.ordered; txns_are = adv.txns_are }

stopped_at : (base : ℕ) (blocks : List (ℕ × List ℕ)) (t : ReadState) (ts : List (List ℕ)) (place : ℕ) → Advance base (start_of base) (epoch_texts blocks) t ts → Stopped base t ts place → IsBadRecord base blocks place
unfolding start_of
stopped_at base blocks t ts place adv stop =
    let all = advance_then base (start_of base) t stop.to (epoch_texts blocks) ts (stop.text ∷ stop.more) adv stop.advance in
    record {
      records = all.records;
      text = stop.text;
      more = stop.more;
      read = all.front;
      ordered = all.ordered;
      wrong = subst (λ (n : ℕ). IsWrong base n stop.text) all.last_is stop.wrong;
      place_is = omega (arith, all.read_is, stop.place_is);
    }

pub read_stops : (e : TxnsFault) (base : ℕ) (blocks : List (ℕ × List ℕ)) (t u : ReadState) (all : List (List ℕ)) (text : List ℕ) (more : List (List ℕ)) → Advance base (start_of base) (epoch_texts blocks) t all → all ≡ text ∷ more →
    RunRead base t text u (Err e) → IsAnswer base blocks (Err e)
read_stops (faults.BadRecord place) base blocks t u all text more adv e h =
    stopped_at base blocks t (text ∷ more) place (subst (Advance base (start_of base) (epoch_texts blocks) t) e adv) (h more)
read_stops faults.OutOfMemory base blocks t u all text more adv e h = tt

pub start_is : (base : ℕ) (items : RawTxns) → items ≡ [] → (let s : ReadState = record { last = base; read = 0; txns = txns_of items } in s) ≡ start_of base
unfolding start_of
start_is base items e = ap (λ (w : RawTxns). let s : ReadState = record { last = base; read = 0; txns = txns_of w } in s) e

pub starts_numbered : (base : ℕ) (items : RawTxns) → items ≡ [] → IsNumbered base (txns_of items) base
starts_numbered base items e = subst (λ (w : RawTxns). IsNumbered base (txns_of w) base) (sym e) refl

pub ends_with : (base : ℕ) (blocks : List (ℕ × List ℕ)) (t : ReadState) (ts : List (List ℕ)) (items : RawTxns) → Advance base (start_of base) (epoch_texts blocks) t ts → ts ≡ [] → txns_of items ≡ t.txns → IsTxns base blocks (txns_of items)
ends_with base blocks t ts items adv e same =
    subst (IsTxns base blocks) (sym same) (read_to_end base blocks t (subst (Advance base (start_of base) (epoch_texts blocks) t) e adv))

-- ---- what the public call says

abbrev Answered : Type 0
Answered = Result (List (ℕ × List Item)) TxnsFault

pub gave : (r : Answered) (base : ℕ) (blocks : List (ℕ × List ℕ)) → IsAnswer base blocks r → (txns : List (ℕ × List PlainItem)) → IsTxns base blocks txns → Gave r txns
gave (Ok found) base blocks h txns p = one_answer base blocks (txns_of found) txns h p
gave (Err faults.OutOfMemory) base blocks h txns p = refl
gave (Err (faults.BadRecord place)) base blocks h txns p = absurd (not_both base blocks txns place p h)

pub told : (r : Answered) (base : ℕ) (blocks : List (ℕ × List ℕ)) → IsAnswer base blocks r → (place : ℕ) → IsBadRecord base blocks place → Told r place
told (Ok found) base blocks h place p = not_both base blocks (txns_of found) place h p
told (Err faults.OutOfMemory) base blocks h place p = tt
told (Err (faults.BadRecord found)) base blocks h place p = one_place base blocks found place h p
