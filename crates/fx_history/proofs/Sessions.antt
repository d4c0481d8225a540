-- A session with one line more.
use Rattle.std.proofs.Common.{◌≡◌, ℕ, zero, suc, ◌+◌, ◌<◌, ◌≤◌, Bool, true, false, List, [], ◌∷◌, ◌++◌, refl, sym, ap, subst, ◌∙◌, length, take, arith, length-append, inl, inr, cond, ◌-◌, get_or}
use Rattle.std.specs.Prelude.{Some, IsOk, All, count_by, slice_get, ◌⊎◌}
use Rattle.std.proofs.lemmas.Option.{slice_get_within, get_or_from_slice_get}
use Rattle.std.proofs.lemmas.List.{take-append-le}
use Rattle.std.proofs.lemmas.List.Sums.{fold-append, count_by_more_yes, count_by_more_no}
use Rattle.std.proofs.Math.Seq.{take-length}
use Rattle.fx_plain.specs.Tree.{Tree}
use Rattle.fx_plain.specs.Table.{do_all, do_step}
use Rattle.fx_script.specs.declared.line.Line.TheVariants.{Sync}
use Rattle.fx_script.specs.declared.script.Task.{Task}
use Rattle.fx_history.specs.declared.entry.Entry.{Entry}
use Rattle.fx_history.specs.declared.outcome.EndKind.{EndKind}
use Rattle.fx_history.specs.declared.outcome.EndKind.TheVariants.{Committed, Seen, Refused, Full, Synced, DeviceFault, OutOfMemory}
use Rattle.fx_history.specs.Outcome.{LineEnd}
use Rattle.fx_history.specs.History.{Legal, tree_at, settle}
use Rattle.fx_history.specs.Transcript.{steps_of, is_committed, IsCommitOf, WouldCommit, IsAnswered, CommitsAs, Session, EndsNext}
use Rattle.fx_history.proofs.Histories.{got_more, got_last, got_split, tree_at_before, legal_more, legal_none}
use Rattle.fx_history.proofs.Settling.{all_got, settled_by_some, settled_by_most, settled_by_same, settle_length, settle_get, settle_got, tree_at_settle, legal_settle}

abbrev one_if : Bool → ℕ
one_if b = cond b 1 0

abbrev commits : LineEnd → Bool
commits o = is_committed o.kind

-- what the commits before a line and its own come to
pub record Follows (tree : Tree) (base : ℕ) (history : List Entry) (tasks : List Task) (outcomes : List LineEnd) : Type 0 where
  pub legal : Legal tree base history
  pub one_each : length outcomes ≡ length tasks
  pub answered : (i : ℕ) (task : Task) (end : LineEnd) → slice_get tasks i ≡ Some task → slice_get outcomes i ≡ Some end → IsAnswered tree history task end.at end.kind
  pub asked : (k : ℕ) (entry : Entry) → slice_get history k ≡ Some entry → 0 < entry.who → (i : ℕ) × (task : Task) × CommitsAs tasks outcomes entry.number entry.line i task
  pub points : (i : ℕ) (end : LineEnd) → slice_get outcomes i ≡ Some end → end.at ≡ base + count_by commits (take (i + 1) outcomes)
  pub count : length history ≡ count_by commits outcomes

-- an end that was right stays right when a commit with a later number is appended
answered_kept : (t : Tree) (base : ℕ) (h : List Entry) (e : Entry) (task : Task) (at : ℕ) (kind : EndKind) → e.number ≡ base + length h + 1 → at ≤ base + length h → IsAnswered t h task at kind → IsAnswered t (h ++ e ∷ []) task at kind
answered_kept t base h e task at Committed n l (i, entry, got, is) = (i, entry, got_more h (e ∷ []) i entry got, is)
answered_kept t base h e task at (Seen answer) n l (step, seen) =
    (step, record { alone = seen.alone; reading = seen.reading; answers = ap (λ (u : Tree). (do_step u step).0) (tree_at_before t h e at (omega (arith, n, l))) ∙ seen.answers })
answered_kept t base h e task at (Refused index refusal) n l a = ap (λ (u : Tree). do_all u (steps_of task.line)) (tree_at_before t h e at (omega (arith, n, l))) ∙ a
answered_kept t base h e task at (Full full) n l a = subst (λ (u : Tree). WouldCommit u task.line) (sym (tree_at_before t h e at (omega (arith, n, l)))) a
answered_kept t base h e task at (Synced calls) n l a = record {
  sync = a.sync;
  settled = λ i x got up_to. elim (got_split h e i x got) [
    | inl old ↦ a.settled i x old up_to
    | inr new ↦ absurd (omega (arith, n, l, up_to, ap (λ (y : Entry). y.number) new.1))
  ];
}
answered_kept t base h e task at (DeviceFault count) n l a = a
answered_kept t base h e task at OutOfMemory n l a = a

-- an end that was right stays right when the history is settled
answered_settle : (t : Tree) (c : ℕ) (h : List Entry) (task : Task) (at : ℕ) (kind : EndKind) → IsAnswered t h task at kind → IsAnswered t (settle c h) task at kind
answered_settle t c h task at Committed (i, entry, got, is) =
    (i, _, settle_get c h i entry got, record { number = is.number; who = is.who; line = is.line; no_sync = is.no_sync; steps = is.steps; changing = is.changing })
answered_settle t c h task at (Seen answer) (step, seen) =
    (step, record { alone = seen.alone; reading = seen.reading; answers = ap (λ (u : Tree). (do_step u step).0) (tree_at_settle t c h at) ∙ seen.answers })
answered_settle t c h task at (Refused index refusal) a = ap (λ (u : Tree). do_all u (steps_of task.line)) (tree_at_settle t c h at) ∙ a
answered_settle t c h task at (Full full) a = subst (λ (u : Tree). WouldCommit u task.line) (sym (tree_at_settle t c h at)) a
answered_settle t c h task at (Synced calls) a = record {
  sync = a.sync;
  settled = λ i x got up_to.
      let old = settle_got c h i x got in
      let was : (0 < old.0.settled) × (old.0.settled ≤ calls) = a.settled i old.0 old.1 (omega (arith, up_to, ap (λ (y : Entry). y.number) old.2)) in
      let same : old.0.settled ≡ x.settled = sym (settled_by_same c old.0.settled was.0) ∙ ap (λ (y : Entry). y.settled) old.2 in
      subst (λ n. (0 < n) × (n ≤ calls)) same was;
}
answered_settle t c h task at (DeviceFault count) a = a
answered_settle t c h task at OutOfMemory a = a

asked_kept : (tasks : List Task) (outcomes : List LineEnd) (task : Task) (end : LineEnd) (number line i : ℕ) (x : Task) → CommitsAs tasks outcomes number line i x → CommitsAs (tasks ++ task ∷ []) (outcomes ++ end ∷ []) number line i x
asked_kept tasks outcomes task end number line i x k = record { asked = got_more tasks (task ∷ []) i x k.asked; ended = got_more outcomes (end ∷ []) i _ k.ended; numbered = k.numbered }

count_more : (xs : List LineEnd) (x : LineEnd) → count_by commits (xs ++ x ∷ []) ≡ count_by commits xs + cond (commits x) 1 0
count_more xs x = fold-append (λ (n : ℕ) (y : LineEnd). n + cond (commits y) 1 0) 0 xs (x ∷ [])

count_next : (xs : List LineEnd) (i : ℕ) (x : LineEnd) → slice_get xs i ≡ Some x → count_by commits (take (i + 1) xs) ≡ count_by commits (take i xs) + cond (commits x) 1 0
count_next xs i x got = by (commits x) refl
  where
    here : get_or xs i x ≡ x
    here = get_or_from_slice_get xs i x x got

    by : (b : Bool) → commits x ≡ b → count_by commits (take (i + 1) xs) ≡ count_by commits (take i xs) + cond b 1 0
    by true e = count_by_more_yes commits xs i x (slice_get_within xs i x got) (ap commits here ∙ e)
    by false e = count_by_more_no commits xs i x (slice_get_within xs i x got) (ap commits here ∙ e) ∙ omega arith

some_or_past : (xs : List LineEnd) (i : ℕ) → ((x : LineEnd) × (slice_get xs i ≡ Some x)) ⊎ (length xs ≤ i)
some_or_past [] i = inr (omega arith)
some_or_past (x ∷ xs) zero = inl (x, refl)
some_or_past (x ∷ xs) (suc i) = elim (some_or_past xs i) [ inl a ↦ inl a | inr b ↦ inr (omega (arith, b)) ]

take_past : (n : ℕ) (xs : List LineEnd) → length xs ≤ n → take n xs ≡ xs
take_past zero [] l = refl
take_past zero (x ∷ xs) l = absurd (omega arith)
take_past (suc n) [] l = refl
take_past (suc n) (x ∷ xs) l = ap (λ ys. x ∷ ys) (take_past n xs (omega arith))

count_step : (xs : List LineEnd) (i : ℕ) → count_by commits (take i xs) ≤ count_by commits (take (i + 1) xs)
count_step xs i = elim (some_or_past xs i) [
  | inl a ↦ omega (arith, count_next xs i a.0 a.1)
  | inr b ↦ let e : take i xs ≡ take (i + 1) xs = take_past i xs b ∙ sym (take_past (i + 1) xs (omega (arith, b))) in omega (arith, ap (count_by commits) e)
]

count_up : (xs : List LineEnd) (i k : ℕ) → count_by commits (take i xs) ≤ count_by commits (take (i + k) xs)
count_up xs i zero = let e : i + 0 ≡ i = omega arith in omega (arith, ap (λ n. count_by commits (take n xs)) e)
count_up xs i (suc k) = let e : i + k + 1 ≡ i + suc k = omega arith in omega (arith, count_up xs i k, count_step xs (i + k), ap (λ n. count_by commits (take n xs)) e)

count_below : (xs : List LineEnd) (i j : ℕ) → i ≤ j → count_by commits (take i xs) ≤ count_by commits (take j xs)
count_below xs i j l = let e : i + (j - i) ≡ j = omega arith in omega (arith, count_up xs i (j - i), ap (λ n. count_by commits (take n xs)) e)

-- a point is one of the history
at_most_end : (t : Tree) (base : ℕ) (h : List Entry) (tasks : List Task) (outcomes : List LineEnd) → Follows t base h tasks outcomes
    → (i : ℕ) (end : LineEnd) → slice_get outcomes i ≡ Some end → end.at ≤ base + length h
at_most_end t base h tasks outcomes k i end got =
    omega (arith, k.points i end got, k.count, count_below outcomes (i + 1) (length outcomes) (omega (arith, slice_get_within outcomes i end got)), ap (count_by commits) (take-length outcomes))

points_more : (base : ℕ) (outcomes : List LineEnd) (o : LineEnd) → ((i : ℕ) (end : LineEnd) → slice_get outcomes i ≡ Some end → end.at ≡ base + count_by commits (take (i + 1) outcomes))
    → o.at ≡ base + (count_by commits outcomes + cond (commits o) 1 0)
    → (i : ℕ) (end : LineEnd) → slice_get (outcomes ++ o ∷ []) i ≡ Some end → end.at ≡ base + count_by commits (take (i + 1) (outcomes ++ o ∷ []))
points_more base outcomes o k at i end got = elim (got_split outcomes o i end got) [
  | inl old ↦ k i end old ∙ ap (λ (xs : List LineEnd). base + count_by commits xs) (sym (take-append-le (i + 1) outcomes (o ∷ []) (omega (arith, slice_get_within outcomes i end old))))
  | inr new ↦ let whole : take (i + 1) (outcomes ++ o ∷ []) ≡ outcomes ++ o ∷ [] = ap (λ n. take n (outcomes ++ o ∷ [])) (let e : i + 1 ≡ length (outcomes ++ o ∷ []) = omega (arith, new.0, length-append outcomes (o ∷ [])) in e) ∙ take-length (outcomes ++ o ∷ []) in
      ap (λ (x : LineEnd). x.at) (sym new.1) ∙ at ∙ ap (λ n. base + n) (sym (count_more outcomes o) ∙ ap (count_by commits) (sym whole))
]

-- a line that commits nothing
stays : (t : Tree) (base : ℕ) (h : List Entry) (tasks : List Task) (outcomes : List LineEnd) (task : Task) (o : LineEnd) → Follows t base h tasks outcomes
    → commits o ≡ false → o.at ≡ base + length h → IsAnswered t h task o.at o.kind → Follows t base h (tasks ++ task ∷ []) (outcomes ++ o ∷ [])
stays t base h tasks outcomes task o k none at a =
    let zero_more : one_if (commits o) ≡ 0 = ap one_if none in
    record {
      legal = k.legal;
      one_each = omega (arith, k.one_each, length-append tasks (task ∷ []), length-append outcomes (o ∷ []));
      answered = λ i x end gotx gotend. elim (got_split outcomes o i end gotend) [
        | inl old ↦ elim (got_split tasks task i x gotx) [
          | inl older ↦ k.answered i x end older old
          | inr newer ↦ absurd (omega (arith, newer.0, k.one_each, slice_get_within outcomes i end old))
        ]
        | inr new ↦ elim (got_split tasks task i x gotx) [
          | inl older ↦ absurd (omega (arith, new.0, k.one_each, slice_get_within tasks i x older))
          | inr newer ↦ subst (λ (y : LineEnd). IsAnswered t h x y.at y.kind) new.1 (subst (λ (y : Task). IsAnswered t h y o.at o.kind) newer.1 a)
        ]
      ];
      asked = λ j entry got who. let old = k.asked j entry got who in (old.0, old.1, asked_kept tasks outcomes task o entry.number entry.line old.0 old.1 old.2);
      points = points_more base outcomes o k.points (omega (arith, at, k.count, zero_more));
      count = omega (arith, k.count, count_more outcomes o, zero_more);
    }

-- a line that commits
commits_more : (t : Tree) (base : ℕ) (h : List Entry) (tasks : List Task) (outcomes : List LineEnd) (task : Task) (at : ℕ) (e : Entry) → Follows t base h tasks outcomes
    → IsCommitOf task at e → e.settled ≡ 0 → at ≡ base + length h + 1 → IsOk (do_all (tree_at t h (base + length h)) e.steps) → 0 < task.client
    → Follows t base (h ++ e ∷ []) (tasks ++ task ∷ []) (outcomes ++ record { at = at; kind = Committed } ∷ [])
commits_more t base h tasks outcomes task at e k is settled place ok client =
    let o : LineEnd = record { at = at; kind = Committed } in
    let number : e.number ≡ base + length h + 1 = is.number ∙ place in
    record {
      legal = legal_more t base h e k.legal number settled (omega (arith, is.who, client)) ok;
      one_each = omega (arith, k.one_each, length-append tasks (task ∷ []), length-append outcomes (o ∷ []));
      answered = λ i x end gotx gotend. elim (got_split outcomes o i end gotend) [
        | inl old ↦ elim (got_split tasks task i x gotx) [
          | inl older ↦ answered_kept t base h e x end.at end.kind number (at_most_end t base h tasks outcomes k i end old) (k.answered i x end older old)
          | inr newer ↦ absurd (omega (arith, newer.0, k.one_each, slice_get_within outcomes i end old))
        ]
        | inr new ↦ elim (got_split tasks task i x gotx) [
          | inl older ↦ absurd (omega (arith, new.0, k.one_each, slice_get_within tasks i x older))
          | inr newer ↦ subst (λ (y : LineEnd). IsAnswered t (h ++ e ∷ []) x y.at y.kind) new.1
              (subst (λ (y : Task). IsAnswered t (h ++ e ∷ []) y at Committed) newer.1 (length h, e, got_last h e, is))
        ]
      ];
      asked = λ j entry got who. elim (got_split h e j entry got) [
        | inl old ↦ let before = k.asked j entry old who in (before.0, before.1, asked_kept tasks outcomes task o entry.number entry.line before.0 before.1 before.2)
        | inr new ↦ (
          length tasks,
          task,
          record {
            asked = got_last tasks task;
            ended = ap (λ n. slice_get (outcomes ++ o ∷ []) n) (sym k.one_each) ∙ got_last outcomes o
                ∙ ap (λ (n : ℕ). Some (let l : LineEnd = record { at = n; kind = Committed } in l)) (sym is.number ∙ ap (λ (y : Entry). y.number) new.1);
            numbered = sym is.line ∙ ap (λ (y : Entry). y.line) new.1;
          },
        )
      ];
      points = points_more base outcomes o k.points (omega (arith, place, k.count));
      count = omega (arith, k.count, count_more outcomes o, length-append h (e ∷ []));
    }

-- each entry of a client is a line that committed, also once it is settled
asked_settle : (c : ℕ) (h : List Entry) (tasks : List Task) (outcomes : List LineEnd)
    → ((k : ℕ) (entry : Entry) → slice_get h k ≡ Some entry → 0 < entry.who → (i : ℕ) × (task : Task) × CommitsAs tasks outcomes entry.number entry.line i task)
    → (k : ℕ) (entry : Entry) → slice_get (settle c h) k ≡ Some entry → 0 < entry.who → (i : ℕ) × (task : Task) × CommitsAs tasks outcomes entry.number entry.line i task
asked_settle c h tasks outcomes k j entry got who =
    let old = settle_got c h j entry got in
    subst (λ (e : Entry). (i : ℕ) × (task : Task) × CommitsAs tasks outcomes e.number e.line i task) old.2 (k j old.0 old.1 (omega (arith, who, ap (λ (e : Entry). e.who) old.2)))

-- the history is settled
pub follows_settle : (t : Tree) (base c : ℕ) (h : List Entry) (tasks : List Task) (outcomes : List LineEnd) → Follows t base h tasks outcomes
    → 0 < c → All (λ entry. entry.settled ≤ c) h → Follows t base (settle c h) tasks outcomes
follows_settle t base c h tasks outcomes k some most = record {
  legal = legal_settle t base c h k.legal some most;
  one_each = k.one_each;
  answered = λ i x end gotx gotend. answered_settle t c h x end.at end.kind (k.answered i x end gotx gotend);
  asked = asked_settle c h tasks outcomes k.asked;
  points = k.points;
  count = settle_length c h ∙ k.count;
}

-- a sync
syncs : (t : Tree) (base c : ℕ) (h : List Entry) (tasks : List Task) (outcomes : List LineEnd) (task : Task) (at : ℕ) → Follows t base h tasks outcomes
    → at ≡ base + length h → task.line ≡ Sync → 0 < c → All (λ entry. entry.settled ≤ c) h → Follows t base (settle c h) (tasks ++ task ∷ []) (outcomes ++ record { at = at; kind = Synced c } ∷ [])
syncs t base c h tasks outcomes task at k place sync some most =
    stays t base (settle c h) tasks outcomes task (record { at = at; kind = Synced c }) (follows_settle t base c h tasks outcomes k some most) refl
    (omega (arith, place, settle_length c h))
    (record {
      sync = sync;
      settled = λ i x got up_to.
          let old = settle_got c h i x got in
          subst (λ (e : Entry). (0 < e.settled) × (e.settled ≤ c)) old.2
          (settled_by_some c old.0.settled some, settled_by_most c old.0.settled (all_got (λ (e : Entry). e.settled ≤ c) h i old.0 most old.1));
    })

-- a line more, by how it ended
pub follows_more : (kind : EndKind) (at : ℕ) (t : Tree) (base : ℕ) (h new : List Entry) (tasks : List Task) (outcomes : List LineEnd) (task : Task) → Follows t base h tasks outcomes
    → 0 < task.client → EndsNext t base h new task at kind → Follows t base new (tasks ++ task ∷ []) (outcomes ++ record { at = at; kind = kind } ∷ [])
follows_more Committed at t base h new tasks outcomes task k client (e, is_new, is, settled, place, ok) =
    subst (λ (x : List Entry). Follows t base x (tasks ++ task ∷ []) (outcomes ++ record { at = at; kind = Committed } ∷ [])) (sym is_new) (commits_more t base h tasks outcomes task at e k is settled place ok client)
follows_more (Seen answer) at t base h new tasks outcomes task k client (is_new, place, a) =
    subst (λ (x : List Entry). Follows t base x (tasks ++ task ∷ []) (outcomes ++ record { at = at; kind = Seen answer } ∷ [])) (sym is_new) (stays t base h tasks outcomes task (record { at = at; kind = Seen answer }) k refl place a)
follows_more (Refused index refusal) at t base h new tasks outcomes task k client (is_new, place, a) =
    subst (λ (x : List Entry). Follows t base x (tasks ++ task ∷ []) (outcomes ++ record { at = at; kind = Refused index refusal } ∷ [])) (sym is_new) (stays t base h tasks outcomes task (record { at = at; kind = Refused index refusal }) k refl place a)
follows_more (Full full) at t base h new tasks outcomes task k client (is_new, place, a) =
    subst (λ (x : List Entry). Follows t base x (tasks ++ task ∷ []) (outcomes ++ record { at = at; kind = Full full } ∷ [])) (sym is_new) (stays t base h tasks outcomes task (record { at = at; kind = Full full }) k refl place a)
follows_more (Synced calls) at t base h new tasks outcomes task k client (is_new, place, sync, some, most) =
    subst (λ (x : List Entry). Follows t base x (tasks ++ task ∷ []) (outcomes ++ record { at = at; kind = Synced calls } ∷ [])) (sym is_new) (syncs t base calls h tasks outcomes task at k place sync some most)
follows_more (DeviceFault count) at t base h new tasks outcomes task k client (is_new, place, a) =
    subst (λ (x : List Entry). Follows t base x (tasks ++ task ∷ []) (outcomes ++ record { at = at; kind = DeviceFault count } ∷ [])) (sym is_new) (stays t base h tasks outcomes task (record { at = at; kind = DeviceFault count }) k refl place a)
follows_more OutOfMemory at t base h new tasks outcomes task k client (is_new, place, answer) =
    subst (λ (x : List Entry). Follows t base x (tasks ++ task ∷ []) (outcomes ++ record { at = at; kind = OutOfMemory } ∷ [])) (sym is_new) (stays t base h tasks outcomes task (record { at = at; kind = OutOfMemory }) k refl place answer)

pub follows_none : (t : Tree) (base : ℕ) → Follows t base [] [] []
follows_none t base = record {
  legal = legal_none t base;
  one_each = refl;
  answered = λ i x end p q. absurd (cc p);
  asked = λ j entry p w. absurd (cc p);
  points = λ i end p. cc;
  count = refl;
}

-- the session that the lines so far make
pub session_of : (t : Tree) (base : ℕ) (h : List Entry) (tasks : List Task) (outcomes : List LineEnd) → Follows t base h tasks outcomes → Session t base h tasks outcomes
session_of t base h tasks outcomes k = record {
  transcript = record {
    legal = k.legal;
    one_each = k.one_each;
    answered = k.answered;
    asked = k.asked;
    within = λ i end got. (omega (arith, k.points i end got), at_most_end t base h tasks outcomes k i end got);
    in_order = λ i j former latter before after l p q same r s. (
      omega (arith, l, k.points i before r, k.points j after s, count_below outcomes (i + 1) (j + 1) (omega (arith, l))),
      λ c. omega (arith, l, k.points i before r, k.points j after s, count_below outcomes (i + 1) j (omega (arith, l)), count_next outcomes j after s, ap one_if c),
    );
  };
  points = k.points;
  count = k.count;
}

-- the history of a session is settled after its last line
pub session_settle : (t : Tree) (base c : ℕ) (h : List Entry) (tasks : List Task) (outcomes : List LineEnd) → Session t base h tasks outcomes
    → 0 < c → All (λ entry. entry.settled ≤ c) h → Session t base (settle c h) tasks outcomes
session_settle t base c h tasks outcomes k some most = record {
  transcript = record {
    legal = legal_settle t base c h k.transcript.legal some most;
    one_each = k.transcript.one_each;
    answered = λ i x end gotx gotend. answered_settle t c h x end.at end.kind (k.transcript.answered i x end gotx gotend);
    asked = asked_settle c h tasks outcomes k.transcript.asked;
    within = λ i end got. let was = k.transcript.within i end got in (was.0, omega (arith, was.1, settle_length c h));
    in_order = k.transcript.in_order;
  };
  points = k.points;
  count = settle_length c h ∙ k.count;
}
