-- One line more: how many lines the disk failed, and which were full.
use Rattle.std.proofs.Common.{◌≡◌, ◌≢◌, ℕ, ◌+◌, ◌-◌, ◌^◌, ◌<◌, ◌≤◌, min, List, [], ◌∷◌, ◌++◌, refl, sym, ap, subst, ◌∙◌, length, arith, inl, inr, cond}
use Rattle.std.specs.Prelude.{Bool, Some, count_by, slice_get}
use Rattle.std.proofs.lemmas.List.Sums.{fold-append}
use Rattle.std.proofs.lemmas.Option.{slice_get_within}
use Rattle.fx_base.specs.Causes.{Rose}
use Rattle.fx_plain.specs.Tree.{Tree}
use Rattle.fx_item.specs.declared.full.Full.{Full}
use Rattle.fx_script.specs.declared.script.Task.{Task}
use Rattle.fx_history.specs.declared.entry.Entry.{Entry}
use Rattle.fx_history.specs.declared.outcome.EndKind.{EndKind}
use Rattle.fx_history.specs.declared.outcome.EndKind.TheVariants as ends
use Rattle.fx_history.specs.Outcome.{LineEnd}
use Rattle.fx_history.specs.Transcript.{EndsNext, is_fault}
use Rattle.fxfs.specs.Lines.{faults_in}
use Rattle.fx_history.proofs.Histories.{got_split}
use Rattle.fxfs.specs.Shell.{AreFaults, AreFull}

pub count_more : (p : LineEnd → Bool) (outcomes : List LineEnd) (o : LineEnd) → count_by p (outcomes ++ o ∷ []) ≡ count_by p outcomes + cond (p o) 1 0
count_more p outcomes o = fold-append (λ (n : ℕ) (y : LineEnd). n + cond (p y) 1 0) 0 outcomes (o ∷ [])

-- what holds of each two lines, with one more
pub pairs_more : (P : LineEnd → LineEnd → Type 0) (outcomes : List LineEnd) (last : LineEnd)
    → ((i j : ℕ) (x y : LineEnd) → i < j → slice_get outcomes i ≡ Some x → slice_get outcomes j ≡ Some y → P x y) → ((i : ℕ) (x : LineEnd) → slice_get outcomes i ≡ Some x → P x last)
    → (i j : ℕ) (x y : LineEnd) → i < j → slice_get (outcomes ++ last ∷ []) i ≡ Some x → slice_get (outcomes ++ last ∷ []) j ≡ Some y → P x y
pairs_more P outcomes last old new i j x y lt one two = elim (got_split outcomes last i x one) [
  | inl before ↦ elim (got_split outcomes last j y two) [
    | inl after ↦ old i j x y lt before after
    | inr after ↦ subst (P x) after.1 (new i x before)
  ]
  | inr before ↦ elim (got_split outcomes last j y two) [
    | inl after ↦ absurd (omega (arith, before.0, lt, slice_get_within outcomes j y after))
    | inr after ↦ absurd (omega (arith, before.0, lt, after.0))
  ]
]

pub faults_none : (count : ℕ) → AreFaults count count []
faults_none count = record {
  counted = omega arith;
  each = λ i end told got. absurd (cc got);
  rising = λ i j former latter lt got. absurd (cc got);
}

abbrev pub end_of : ℕ → EndKind → LineEnd
end_of at kind = record { at = at; kind = kind }

-- what is known of the disk's faults after a line that ended so
abbrev pub Fails : ℕ → ℕ → EndKind → Type 0
Fails before after kind = (count : ℕ) → kind ≡ ends.DeviceFault count → (count ≡ after) × Rose before after

counted_more : (first before after : ℕ) (outcomes : List LineEnd) (at : ℕ) (kind : EndKind) → AreFaults first before outcomes → before ≤ after → Fails before after kind
    → min (first + faults_in (outcomes ++ end_of at kind ∷ [])) (2 ^ 64 - 1) ≤ after
counted_more first before after outcomes at (ends.DeviceFault count) k grows fails = omega (arith, k.counted, count_more (λ o. is_fault o.kind) outcomes (end_of at (ends.DeviceFault count)), (fails count refl).1)
counted_more first before after outcomes at ends.Committed k grows fails = omega (arith, k.counted, count_more (λ o. is_fault o.kind) outcomes (end_of at ends.Committed), grows)
counted_more first before after outcomes at (ends.Seen answer) k grows fails = omega (arith, k.counted, count_more (λ o. is_fault o.kind) outcomes (end_of at (ends.Seen answer)), grows)
counted_more first before after outcomes at (ends.Refused index refusal) k grows fails = omega (arith, k.counted, count_more (λ o. is_fault o.kind) outcomes (end_of at (ends.Refused index refusal)), grows)
counted_more first before after outcomes at (ends.Full full) k grows fails = omega (arith, k.counted, count_more (λ o. is_fault o.kind) outcomes (end_of at (ends.Full full)), grows)
counted_more first before after outcomes at (ends.Synced calls) k grows fails = omega (arith, k.counted, count_more (λ o. is_fault o.kind) outcomes (end_of at (ends.Synced calls)), grows)
counted_more first before after outcomes at ends.OutOfMemory k grows fails = omega (arith, k.counted, count_more (λ o. is_fault o.kind) outcomes (end_of at ends.OutOfMemory), grows)

pub faults_more : (first before after : ℕ) (outcomes : List LineEnd) (at : ℕ) (kind : EndKind) → AreFaults first before outcomes → first ≤ before → before ≤ after → Fails before after kind
    → AreFaults first after (outcomes ++ end_of at kind ∷ [])
faults_more first before after outcomes at kind k from grows fails = record {
  counted = counted_more first before after outcomes at kind k grows fails;
  each = λ i end count got is. elim (got_split outcomes (end_of at kind) i end got) [
    | inl old ↦ let was = k.each i end count old is in (was.0, omega (arith, was.1, grows))
    | inr new ↦ let told = fails count (ap (λ (e : LineEnd). e.kind) new.1 ∙ is) in (omega (arith, told.0, told.1, from), omega (arith, told.0))
  ];
  rising = pairs_more (λ (x y : LineEnd). (m n : ℕ) → x.kind ≡ ends.DeviceFault m → y.kind ≡ ends.DeviceFault n → Rose m n) outcomes (end_of at kind) k.rising
      (λ i x got m n is same. let told = fails n same in omega (arith, (k.each i x m got is).1, told.0, told.1));
}

-- Where no line fails the count stays: a line that does not fail leaves it.
pub unfailed_more : (first before after : ℕ) (outcomes : List LineEnd) (at : ℕ) (kind : EndKind) → (faults_in outcomes ≡ 0 → before ≡ first) → (((count : ℕ) → kind ≢ ends.DeviceFault count) → after ≡ before)
    → faults_in (outcomes ++ end_of at kind ∷ []) ≡ 0 → after ≡ first
unfailed_more first before after outcomes at (ends.DeviceFault count) old good none = absurd (omega (arith, none, count_more (λ o. is_fault o.kind) outcomes (end_of at (ends.DeviceFault count))))
unfailed_more first before after outcomes at ends.Committed old good none = good (λ count e. cc) ∙ old (omega (arith, none, count_more (λ o. is_fault o.kind) outcomes (end_of at ends.Committed)))
unfailed_more first before after outcomes at (ends.Seen answer) old good none = good (λ count e. cc) ∙ old (omega (arith, none, count_more (λ o. is_fault o.kind) outcomes (end_of at (ends.Seen answer))))
unfailed_more first before after outcomes at (ends.Refused index refusal) old good none = good (λ count e. cc) ∙ old (omega (arith, none, count_more (λ o. is_fault o.kind) outcomes (end_of at (ends.Refused index refusal))))
unfailed_more first before after outcomes at (ends.Full full) old good none = good (λ count e. cc) ∙ old (omega (arith, none, count_more (λ o. is_fault o.kind) outcomes (end_of at (ends.Full full))))
unfailed_more first before after outcomes at (ends.Synced calls) old good none = good (λ count e. cc) ∙ old (omega (arith, none, count_more (λ o. is_fault o.kind) outcomes (end_of at (ends.Synced calls))))
unfailed_more first before after outcomes at ends.OutOfMemory old good none = good (λ count e. cc) ∙ old (omega (arith, none, count_more (λ o. is_fault o.kind) outcomes (end_of at ends.OutOfMemory)))

-- the same by counts further apart
pub faults_between : (first before after last : ℕ) (outcomes : List LineEnd) → first ≤ before → after ≤ last → AreFaults before after outcomes → AreFaults first last outcomes
faults_between first before after last outcomes low high k = record {
  counted = omega (arith, k.counted, low, high);
  each = λ i end count got is. let was = k.each i end count got is in (omega (arith, was.0, low), omega (arith, was.1, high));
  rising = k.rising;
}

pub full_none : (ring live base : ℕ) → AreFull ring live base []
full_none ring live base = record {
  each = λ i end full got is. absurd (cc got);
  last = λ i j former latter lt got. absurd (cc got);
}

-- no line that was full tells more live blocks than there are now
abbrev pub AreWithin : ℕ → List LineEnd → Type 0
AreWithin now outcomes = (i : ℕ) (end : LineEnd) (full : Full) → slice_get outcomes i ≡ Some end → end.kind ≡ ends.Full full → full.live ≤ now

pub within_none : (now : ℕ) → AreWithin now []
within_none now i end full got is = absurd (cc got)

-- what is known of the ring at a line that ends so
abbrev IsRefusal : ℕ → ℕ → EndKind → Type 0
IsRefusal ring now kind = (full : Full) → kind ≡ ends.Full full → (full ≡ record { live = now; promised = 0; want = 1 }) × (ring < now + 2)

pub within_more : (ring now later : ℕ) (outcomes : List LineEnd) (at : ℕ) (kind : EndKind) → AreWithin now outcomes → now ≤ later → IsRefusal ring now kind → AreWithin later (outcomes ++ end_of at kind ∷ [])
within_more ring now later outcomes at kind k le refusal i end full got same = elim (got_split outcomes (end_of at kind) i end got) [
  | inl before ↦ omega (arith, k i end full before same, le)
  | inr new ↦ omega (arith, ap (λ (f : Full). f.live) (refusal full (ap (λ (e : LineEnd). e.kind) new.1 ∙ same)).0, le)
]

-- a line that is full ends at the last commit
full_at : (tree : Tree) (base : ℕ) (old new : List Entry) (task : Task) (at : ℕ) (kind : EndKind) (full : Full) → EndsNext tree base old new task at kind → kind ≡ ends.Full full → at ≡ base + length old
full_at tree base old new task at kind full is same =
    (let h : EndsNext tree base old new task at (ends.Full full) = subst (EndsNext tree base old new task at) same is in h).1

pub full_more : (ring live now base : ℕ) (tree : Tree) (old new : List Entry) (task : Task) (outcomes : List LineEnd) (at : ℕ) (kind : EndKind) → AreFull ring live base outcomes
    → AreWithin now outcomes → live ≤ now → now ≤ live + length old → EndsNext tree base old new task at kind → IsRefusal ring now kind → (kind ≡ ends.Committed → now + 2 ≤ ring) → AreFull ring live base (outcomes ++ end_of at kind ∷ [])
full_more ring live now base tree old new task outcomes at kind k within low few is refusal room = record {
  each = λ i end full got same. elim (got_split outcomes (end_of at kind) i end got) [
    | inl before ↦ k.each i end full before same
    | inr last ↦
        let kind_is : kind ≡ ends.Full full = ap (λ (e : LineEnd). e.kind) last.1 ∙ same in
        let r = refusal full kind_is in
        let told : full.live ≡ now = ap (λ (f : Full). f.live) r.0 in
        record {
          counts = r.0 ∙ ap (λ (n : ℕ). record { live = n; promised = 0; want = 1 }) (sym told);
          least = omega (arith, told, low);
          most = omega (arith, told, few, full_at tree base old new task at kind full is kind_is, ap (λ (e : LineEnd). e.at) last.1);
          no_place = omega (arith, told, r.1);
        }
  ];
  last = pairs_more (λ (x y : LineEnd). (full : Full) → x.kind ≡ ends.Full full → y.kind ≢ ends.Committed) outcomes (end_of at kind) k.last
      (λ i x got full same done. absurd (omega (arith, (k.each i x full got same).no_place, within i x full got same, room done)));
}
