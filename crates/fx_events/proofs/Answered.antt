-- The ends of lines over a history are ends over the notes that it is read off.
use Rattle.std.proofs.Common.{◌≡◌, ℕ, zero, suc, ◌+◌, ◌-◌, ◌<◌, ◌≤◌, Bool, true, false, cond, ◌&&◌, List, [], ◌∷◌, map, length, take, refl, sym, ap, subst, ◌∙◌, arith, inl, inr}
use Rattle.std.specs.Prelude.{◌≢◌, Some, Err, IsOk, fold, nat_le, nat_lt, count_by, slice_get}
use Rattle.std.proofs.lemmas.Bool.{le-leb, lt-leb, lt-ltb, cases_lt}
use Rattle.std.proofs.lemmas.List.{length-map}
use Rattle.std.specs.Cmp.Derive.{both_true}
use Rattle.std.specs.List.{list_any}
use Rattle.fx_plain.specs.Tree.{Tree}
use Rattle.fx_plain.specs.Table.{do_all, do_step, is_reading}
use Rattle.fx_plain.specs.declared.step.Step.{Step}
use Rattle.fx_plain.specs.declared.step.Refusal.{Refusal}
use Rattle.fx_script.specs.declared.line.Line.{Line}
use Rattle.fx_script.specs.declared.line.Line.TheVariants as lines
use Rattle.fx_script.specs.declared.script.Task.{Task}
use Rattle.fx_history.specs.declared.entry.Entry.{Entry}
use Rattle.fx_history.specs.declared.outcome.EndKind.{EndKind}
use Rattle.fx_history.specs.declared.outcome.EndKind.TheVariants as kinds
use Rattle.fx_history.specs.Outcome.{LineEnd}
use Rattle.fx_history.specs.History.{Legal, tree_at}
use Rattle.fx_history.specs.Transcript.{CommitsAs, IsAnswered, Session, Transcript, is_committed, steps_of}
use Rattle.fx_events.specs.Notes.{AreNotes, Mounted, Note, calls_in, entries_in, history_in, last_commit, settled_at}
use Rattle.fx_events.specs.Ends.{EndedAt, IsEndOf, SentRequest, Steps}
use Rattle.fx_events.specs.Lines.{AreEnds, AreEndsOfOne, IsLineOf, ended_of, ending_of, ends_in_commit, is_asked_upto, line_request, sent_of}
use Rattle.fx_events.proofs.Entries.{legal_entries, map_get, map_got, tree_history}

requested : (line : Line) → line ≢ lines.Sync → line_request line ≡ Steps (steps_of line)
requested (lines.Single step) other = refl
requested lines.Sync other = absurd (other refl)

refused : (u : Tree) (line : Line) (index : ℕ) (refusal : Refusal) → do_all u (steps_of line) ≡ Err (index, refusal) → (steps : List Step) × (line_request line ≡ Steps steps) × (do_all u steps ≡ Err (index, refusal))
refused u (lines.Single step) index refusal e = (step ∷ [], refl, e)
refused u lines.Sync index refusal e = absurd (cc e)

same_commit : (kind : EndKind) → ends_in_commit (ending_of kind) ≡ is_committed kind
same_commit kinds.Committed = refl
same_commit (kinds.Seen answer) = refl
same_commit (kinds.Refused index refusal) = refl
same_commit (kinds.Full full) = refl
same_commit (kinds.Synced calls) = refl
same_commit (kinds.DeviceFault count) = refl
same_commit kinds.OutOfMemory = refl

-- two entries of one number are one
one_entry : (t : Tree) (base : ℕ) (h : List Entry) → Legal t base h → (i j : ℕ) (a b : Entry) → slice_get h i ≡ Some a → slice_get h j ≡ Some b → a.number ≡ b.number → a ≡ b
one_entry t base h k i j a b got there same =
    let e : i ≡ j = omega (arith, k.numbered i a got, k.numbered j b there, same) in
    cc (sym got ∙ ap (slice_get h) e ∙ there)

module _ (mounted : Mounted) (notes : List Note) where
  abbrev put : Entry → Entry
  put entry = settled_at (calls_in notes entry.number) entry

  right_end : (task : Task) (at : ℕ) (kind : EndKind) → IsAnswered mounted.tree (history_in notes) task at kind → IsEndOf mounted notes (sent_of task) at (ending_of kind)
  right_end task at kinds.Committed (i, entry, got, is) =
      let old = map_got put (entries_in notes) i entry got in (
        i,
        old.0,
        old.1,
        record {
          number = ap (λ (x : Entry). x.number) old.2 ∙ is.number;
          who = ap (λ (x : Entry). x.who) old.2 ∙ is.who;
          line = ap (λ (x : Entry). x.line) old.2 ∙ is.line;
          steps = requested task.line is.no_sync ∙ ap Steps (sym is.steps ∙ ap (λ (x : Entry). x.steps) (sym old.2));
          changing = ap (list_any is_reading) (ap (λ (x : Entry). x.steps) old.2 ∙ is.steps) ∙ is.changing;
        },
      )
  right_end task at (kinds.Seen answer) (step, seen) = (
    step,
    record {
      alone = ap line_request seen.alone;
      reading = seen.reading;
      answers = ap (λ (u : Tree). (do_step u step).0) (sym (tree_history mounted.tree notes at)) ∙ seen.answers;
    },
  )
  right_end task at (kinds.Refused index refusal) a =
      refused (tree_at mounted.tree (entries_in notes) at) task.line index refusal
      (ap (λ (u : Tree). do_all u (steps_of task.line)) (sym (tree_history mounted.tree notes at)) ∙ a)
  right_end task at (kinds.Full full) a = (
    steps_of task.line,
    record {
      asked = requested task.line a.no_sync;
      changing = a.changing;
      done = subst (λ (u : Tree). IsOk (do_all u (steps_of task.line))) (tree_history mounted.tree notes at) a.done;
    },
  )
  right_end task at (kinds.Synced calls) a = (ap line_request a.sync, a.settled)
  right_end task at (kinds.DeviceFault count) a = tt
  right_end task at kinds.OutOfMemory a = tt

  module _ (tasks : List Task) (outcomes : List LineEnd) (k : Transcript mounted.tree mounted.kept (history_in notes) tasks outcomes) where
    asked_line : (j : ℕ) (entry : Entry) → slice_get (entries_in notes) j ≡ Some entry → (i : ℕ) (task : Task) → CommitsAs tasks outcomes entry.number entry.line i task → IsLineOf (map sent_of tasks) (map ended_of outcomes) entry i (sent_of task)
    asked_line j entry got i task c =
        let there = map_get put (entries_in notes) j entry got in
        let is = k.answered i task (record { at = entry.number; kind = kinds.Committed }) c.asked c.ended in
        let same : is.1 ≡ put entry = one_entry mounted.tree mounted.kept (history_in notes) k.legal is.0 j is.1 (put entry) is.2 there is.3.number in
        record {
          asked = map_get sent_of tasks i task c.asked;
          ended = map_get ended_of outcomes i _ c.ended;
          client = sym is.3.who ∙ ap (λ (x : Entry). x.who) same;
          line = c.numbered;
        }

    pub are_ends : AreNotes mounted notes → AreEnds mounted notes (map sent_of tasks) (map ended_of outcomes)
    are_ends f = record {
      happened = f;
      one_each = length-map outcomes ended_of ∙ k.one_each ∙ sym (length-map tasks sent_of);
      right = λ i sent end gs ge.
          let a = map_got sent_of tasks i sent gs in
          let b = map_got ended_of outcomes i end ge in
          subst (λ (s : SentRequest). IsEndOf mounted notes s end.at end.ending) a.2
          (subst (λ (e : EndedAt). IsEndOf mounted notes (sent_of a.0) e.at e.ending) b.2 (right_end a.0 b.0.at b.0.kind (k.answered i a.0 b.0 a.1 b.1)));
      asked = λ j entry got some.
          let c = k.asked j (put entry) (map_get put (entries_in notes) j entry got) some in
          (c.0, sent_of c.1, asked_line j entry got c.0 c.1 c.2);
      within = λ i end got.
          let b = map_got ended_of outcomes i end got in
          let w = k.within i b.0 b.1 in
          subst (λ (e : EndedAt). (mounted.kept ≤ e.at) × (e.at ≤ last_commit mounted.kept notes)) b.2 (w.0, omega (arith, w.1, length-map (entries_in notes) put));
      in_order = λ i j former latter before after less gf gl same gb ga.
          let x = map_got sent_of tasks i former gf in
          let y = map_got sent_of tasks j latter gl in
          let b = map_got ended_of outcomes i before gb in
          let a = map_got ended_of outcomes j after ga in
          let client : x.0.client ≡ y.0.client = ap (λ (s : SentRequest). s.client) x.2 ∙ same ∙ ap (λ (s : SentRequest). s.client) (sym y.2) in
          let o = k.in_order i j x.0 y.0 b.0 a.0 less x.1 y.1 client b.1 a.1 in
          let first : b.0.at ≡ before.at = ap (λ (e : EndedAt). e.at) b.2 in
          let second : a.0.at ≡ after.at = ap (λ (e : EndedAt). e.at) a.2 in
          let commit : ends_in_commit after.ending ≡ is_committed a.0.kind = ap (λ (e : EndedAt). ends_in_commit e.ending) (sym a.2) ∙ same_commit a.0.kind in
          (omega (arith, o.0, first, second), λ is. omega (arith, o.1 (sym commit ∙ is), first, second));
    }

-- ---- one client alone

abbrev one_if : Bool → ℕ
one_if b = cond b 1 0

commits_counted : (n : ℕ) (xs : List LineEnd) (sofar : ℕ)
    → fold (λ (m : ℕ) (o : EndedAt). m + one_if (ends_in_commit o.ending)) sofar (take n (map ended_of xs)) ≡ fold (λ (m : ℕ) (o : LineEnd). m + one_if (is_committed o.kind)) sofar (take n xs)
commits_counted zero [] sofar = refl
commits_counted zero (x ∷ xs) sofar = refl
commits_counted (suc n) [] sofar = refl
commits_counted (suc n) (x ∷ xs) sofar =
    commits_counted n xs (sofar + one_if (ends_in_commit (ending_of x.kind)))
    ∙ ap (λ (b : Bool). fold (λ (m : ℕ) (o : LineEnd). m + one_if (is_committed o.kind)) (sofar + one_if b) (take n xs)) (same_commit x.kind)

abbrev AreNumbered : ℕ → List Entry → Type 0
AreNumbered base h = (i : ℕ) (entry : Entry) → slice_get h i ≡ Some entry → (entry.number ≡ base + i + 1) × (0 < entry.who)

tail_numbered : (base : ℕ) (e : Entry) (h : List Entry) → AreNumbered base (e ∷ h) → AreNumbered (base + 1) h
tail_numbered base e h k = λ i x got. (omega (arith, (k (suc i) x got).0), (k (suc i) x got).1)

and_false : (a b : Bool) → b ≡ false → (a && b) ≡ false
and_false true b e = e
and_false false b e = refl

none_counted : (h : List Entry) (base at sofar : ℕ) → AreNumbered base h → at ≤ base → fold (λ (m : ℕ) (e : Entry). m + one_if (is_asked_upto at e)) sofar h ≡ sofar
none_counted [] base at sofar k le = refl
none_counted (e ∷ h) base at sofar k le =
    let past : nat_le e.number at ≡ false = lt-leb e.number at (omega (arith, (k 0 e refl).0)) in
    ap (λ (b : Bool). fold (λ (m : ℕ) (x : Entry). m + one_if (is_asked_upto at x)) (sofar + one_if b) h) (and_false (nat_lt 0 e.who) (nat_le e.number at) past)
    ∙ none_counted h (base + 1) at (sofar + 0) (tail_numbered base e h k) (omega arith) ∙ omega arith

entries_counted : (h : List Entry) (base at sofar : ℕ) → AreNumbered base h → base ≤ at → at ≤ base + length h → fold (λ (m : ℕ) (e : Entry). m + one_if (is_asked_upto at e)) sofar h ≡ sofar + (at - base)
entries_counted [] base at sofar k low high = omega arith
entries_counted (e ∷ h) base at sofar k low high = elim (cases_lt base at) [
  | inl less ↦
      let own = k 0 e refl in
      let counts : is_asked_upto at e ≡ true = both_true (lt-ltb 0 e.who own.1) (le-leb e.number at (omega (arith, own.0, less))) in
      ap (λ (b : Bool). fold (λ (m : ℕ) (x : Entry). m + one_if (is_asked_upto at x)) (sofar + one_if b) h) counts
      ∙ entries_counted h (base + 1) at (sofar + 1) (tail_numbered base e h k) (omega (arith, less)) (omega (arith, high)) ∙ omega (arith, less)
  | inr not_less ↦ none_counted (e ∷ h) base at sofar k (omega (arith, not_less)) ∙ omega (arith, not_less, low)
]

pub are_of_one : (mounted : Mounted) (notes : List Note) (tasks : List Task) (outcomes : List LineEnd) → AreNotes mounted notes
    → ((i : ℕ) (entry : Entry) → slice_get (entries_in notes) i ≡ Some entry → 0 < entry.who)
    → Session mounted.tree mounted.kept (history_in notes) tasks outcomes → AreEndsOfOne notes (map ended_of outcomes)
are_of_one mounted notes tasks outcomes f clients s = λ i end got.
    let b = map_got ended_of outcomes i end got in
    let at : b.0.at ≡ end.at = ap (λ (e : EndedAt). e.at) b.2 in
    let w = s.transcript.within i b.0 b.1 in
    let point = s.points i b.0 b.1 in
    let k = legal_entries mounted notes f in
    let counted = entries_counted (entries_in notes) mounted.kept end.at 0 (λ j x there. (k.numbered j x there, clients j x there)) (omega (arith, w.0, at)) (omega (arith, w.1, at, length-map (entries_in notes) (put mounted notes))) in
    let commits = commits_counted (i + 1) outcomes 0 in
    let plain : 0 + (end.at - mounted.kept) ≡ end.at - mounted.kept = omega arith in
    let is : end.at - mounted.kept ≡ count_by (λ (o : LineEnd). is_committed o.kind) (take (i + 1) outcomes) = omega (arith, at, point) in
    counted ∙ plain ∙ is ∙ sym commits
