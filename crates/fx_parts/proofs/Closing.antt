-- The ends of lines, with one line more that has ended.
use Rattle.std.proofs.Common.{◌≡◌, ◌⊎◌, inl, inr, ℕ, zero, suc, ◌+◌, ◌<◌, ◌≤◌, true, List, [], ◌∷◌, ◌++◌, Some, sym, ap, subst, ◌∙◌, arith, length, length-append}
use Rattle.std.specs.Prelude.{slice_get}
use Rattle.fx_history.specs.declared.entry.Entry.{Entry}
use Rattle.fx_history.proofs.Histories.{got_last, got_more, got_split}
use Rattle.fx_events.specs.Ends.{Committed, EndedAt, Ending, IsEndOf, IsEntryOf, SentRequest}
use Rattle.fx_events.specs.Lines.{AreEnds, IsLineOf, ends_in_commit}
use Rattle.fx_events.specs.Notes.{AreNotes, Commits, IsNextNote, Mounted, Note, entries_in, last_commit}
use Rattle.fx_events.proofs.Entries.{entries_more, follow_next}
use Rattle.fx_parts.proofs.Ended.{end_kept}

-- the entry was there, or is the commit of the line that has ended
abbrev IsOldOrOf : List Note → SentRequest → EndedAt → Entry → Type 0
IsOldOrOf notes sent end entry =
    ((j : ℕ) × (slice_get (entries_in notes) j ≡ Some entry))
    ⊎ ((end ≡ record { at = entry.number; ending = Committed }) × (sent.client ≡ entry.who) × (sent.line ≡ entry.line))

-- a client's line ends no lower than its earlier ones, and above them where it commits
abbrev EndsAbove : List SentRequest → List EndedAt → SentRequest → EndedAt → Type 0
EndsAbove sents ends sent end = (i : ℕ) (former : SentRequest) (before : EndedAt) → slice_get sents i ≡ Some former → slice_get ends i ≡ Some before
    → former.client ≡ sent.client → (before.at ≤ end.at) × (ends_in_commit end.ending ≡ true → before.at < end.at)

got_below : {X : Type 0} (xs : List X) (i : ℕ) (x : X) → slice_get xs i ≡ Some x → i < length xs
got_below [] i x e = absurd (cc e)
got_below (y ∷ xs) zero i e = omega arith
got_below (y ∷ xs) (suc i) x e = let a = got_below xs i x e in omega arith

module _ (mounted : Mounted) (notes later : List Note) (sents : List SentRequest) (ends : List EndedAt) (a : AreEnds mounted notes sents ends) (sent : SentRequest) (end : EndedAt)
    (happened : AreNotes mounted later) (rises : last_commit mounted.kept notes ≤ last_commit mounted.kept later)
    (kept : (s : SentRequest) (at : ℕ) (ending : Ending) → at ≤ last_commit mounted.kept notes → IsEndOf mounted notes s at ending → IsEndOf mounted later s at ending)
    (right : IsEndOf mounted later sent end.at end.ending) (from : mounted.kept ≤ end.at) (upto : end.at ≤ last_commit mounted.kept later)
    (above : EndsAbove sents ends sent end)
    (new : (k : ℕ) (entry : Entry) → slice_get (entries_in later) k ≡ Some entry → 0 < entry.who → IsOldOrOf notes sent end entry) where
  still_right : (i : ℕ) (s : SentRequest) (e : EndedAt) → slice_get sents i ≡ Some s → slice_get ends i ≡ Some e → IsEndOf mounted later s e.at e.ending
  still_right i s e gs ge = kept s e.at e.ending (a.within i e ge).1 (a.right i s e gs ge)

  right_more : (i : ℕ) (s : SentRequest) (e : EndedAt) → slice_get (sents ++ sent ∷ []) i ≡ Some s → slice_get (ends ++ end ∷ []) i ≡ Some e → IsEndOf mounted later s e.at e.ending
  right_more i s e gs ge = elim (got_split sents sent i s gs) [
    | inl os ↦ elim (got_split ends end i e ge) [
      | inl oe ↦ still_right i s e os oe
      | inr le ↦ absurd (let b = got_below sents i s os in omega (arith, le.0, a.one_each))
    ]
    | inr ls ↦ elim (got_split ends end i e ge) [
      | inl oe ↦ absurd (let b = got_below ends i e oe in omega (arith, ls.0, a.one_each))
      | inr le ↦ subst (λ (z : SentRequest). IsEndOf mounted later z e.at e.ending) ls.1 (subst (λ (z : EndedAt). IsEndOf mounted later sent z.at z.ending) le.1 right)
    ]
  ]

  asked_more : (k : ℕ) (entry : Entry) → slice_get (entries_in later) k ≡ Some entry → 0 < entry.who → (i : ℕ) × (s : SentRequest) × IsLineOf (sents ++ sent ∷ []) (ends ++ end ∷ []) entry i s
  asked_more k entry got some = elim (new k entry got some) [
    | inl old ↦ (let l = a.asked old.0 entry old.1 some in (
      l.0,
      l.1,
      record {
        asked = got_more sents (sent ∷ []) l.0 l.1 l.2.asked;
        ended = got_more ends (end ∷ []) l.0 _ l.2.ended;
        client = l.2.client;
        line = l.2.line;
      },
    ))
    | inr of ↦ (
      length sents,
      sent,
      record {
        asked = got_last sents sent;
        ended = ap (slice_get (ends ++ end ∷ [])) (sym a.one_each) ∙ got_last ends end ∙ ap Some of.0;
        client = of.1;
        line = of.2;
      },
    )
  ]

  order_more : (i j : ℕ) (former latter : SentRequest) (before after : EndedAt) → i < j → slice_get (sents ++ sent ∷ []) i ≡ Some former → slice_get (sents ++ sent ∷ []) j ≡ Some latter
      → former.client ≡ latter.client → slice_get (ends ++ end ∷ []) i ≡ Some before → slice_get (ends ++ end ∷ []) j ≡ Some after
      → (before.at ≤ after.at) × (ends_in_commit after.ending ≡ true → before.at < after.at)
  order_more i j former latter before after less gf gl same gb ga = elim (got_split sents sent j latter gl) [
    | inl ol ↦ (let b = got_below sents j latter ol in elim (got_split sents sent i former gf) [
      | inr lf ↦ absurd (omega (arith, lf.0))
      | inl of ↦ elim (got_split ends end i before gb) [
        | inr lb ↦ absurd (omega (arith, lb.0, a.one_each))
        | inl ob ↦ elim (got_split ends end j after ga) [
          | inr la ↦ absurd (omega (arith, la.0, a.one_each))
          | inl oa ↦ a.in_order i j former latter before after less of ol same ob oa
        ]
      ]
    ])
    | inr ll ↦ elim (got_split sents sent i former gf) [
      | inr lf ↦ absurd (omega (arith, lf.0, ll.0))
      | inl of ↦ elim (got_split ends end i before gb) [
        | inr lb ↦ absurd (omega (arith, lb.0, ll.0, a.one_each))
        | inl ob ↦ elim (got_split ends end j after ga) [
          | inl oa ↦ absurd (let b = got_below ends j after oa in omega (arith, ll.0, a.one_each))
          | inr la ↦ subst (λ (z : EndedAt). (before.at ≤ z.at) × (ends_in_commit z.ending ≡ true → before.at < z.at)) la.1
              (above i former before of ob (same ∙ sym (ap (λ (z : SentRequest). z.client) ll.1)))
        ]
      ]
    ]
  ]

  line_more : AreEnds mounted later (sents ++ sent ∷ []) (ends ++ end ∷ [])
  line_more = record {
    happened = happened;
    one_each = omega (arith, a.one_each, length-append ends (end ∷ []), length-append sents (sent ∷ []));
    right = right_more;
    asked = asked_more;
    within = λ i e got. elim (got_split ends end i e got) [
      | inl old ↦ (let w = a.within i e old in (w.0, (let b = w.1 in omega (arith, rises))))
      | inr last ↦ subst (λ (z : EndedAt). (mounted.kept ≤ z.at) × (z.at ≤ last_commit mounted.kept later)) last.1 (from, upto)
    ];
    in_order = order_more;
  }

-- ---- a line that commits

module _ (mounted : Mounted) (notes : List Note) (sents : List SentRequest) (ends : List EndedAt) (a : AreEnds mounted notes sents ends) where
  pub line_commits : (sent : SentRequest) (entry : Entry) → IsNextNote mounted notes (Commits entry) → IsEntryOf sent entry.number entry
      → AreEnds mounted (notes ++ Commits entry ∷ []) (sents ++ sent ∷ []) (ends ++ record { at = entry.number; ending = Committed } ∷ [])
  line_commits sent entry next of =
      let count : last_commit mounted.kept (notes ++ Commits entry ∷ []) ≡ last_commit mounted.kept notes + 1
      = omega (arith, ap length (entries_more notes (Commits entry ∷ [])), length-append (entries_in notes) (entry ∷ [])) in
      line_more mounted notes (notes ++ Commits entry ∷ []) sents ends a sent (record { at = entry.number; ending = Committed })
      (follow_next mounted [] notes (Commits entry) a.happened next)
      (omega (arith, count))
      (λ s at ending low h. end_kept mounted notes (Commits entry) s at ending next low h)
      (length (entries_in notes), entry, ap (λ l. slice_get l (length (entries_in notes))) (entries_more notes (Commits entry ∷ [])) ∙ got_last (entries_in notes) entry, of)
      (omega (arith, next.number))
      (omega (arith, next.number, count))
      (λ i former before gs ge same. let w = (a.within i before ge).1 in (omega (arith, next.number), λ is. omega (arith, next.number)))
      (λ k e got some. elim (got_split (entries_in notes) entry k e (ap (λ l. slice_get l k) (sym (entries_more notes (Commits entry ∷ []))) ∙ got)) [
        | inl old ↦ inl (k, old)
        | inr last ↦ inr (ap (λ (z : Entry). record { at = z.number; ending = Committed }) last.1, sym of.who ∙ ap (λ (z : Entry). z.who) last.1, sym of.line ∙ ap (λ (z : Entry). z.line) last.1)
      ])

  -- ---- a line that does not

  pub line_looks : (sent : SentRequest) (end : EndedAt) → IsEndOf mounted notes sent end.at end.ending → mounted.kept ≤ end.at → end.at ≤ last_commit mounted.kept notes
      → EndsAbove sents ends sent end → AreEnds mounted notes (sents ++ sent ∷ []) (ends ++ end ∷ [])
  line_looks sent end right from upto above =
      line_more mounted notes notes sents ends a sent end a.happened (omega arith) (λ s at ending low h. h) right from upto above (λ k e got some. inl (k, got))
