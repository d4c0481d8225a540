-- The first bytes of records are whole records, and a cut one or nothing.
use Rattle.std.proofs.Common.{◌≡◌, ℕ, zero, suc, ◌+◌, ◌^◌, ◌<◌, ◌≤◌, List, [], ◌∷◌, ◌++◌, length, take, drop, refl, sym, ap, ◌∙◌, append_assoc, arith, inl, inr, length-append, length-take}
use Rattle.std.specs.Prelude.{All}
use Rattle.std.specs.List.{concat}
use Rattle.std.proofs.lemmas.Bool.{cases_lt}
use Rattle.std.proofs.lemmas.List.{append_cancel_left, take-append-drop, take-append-le, take_at}
use Rattle.std.proofs.lemmas.List.Folds.{concat-append}
use Rattle.std.proofs.lemmas.List.Elements.{All-head, All-tail}
use Rattle.byteorder.specs.Numbers.{little_from-append}
use Rattle.fx_record.specs.Record.{PlainRecord, IsRecord, body_bytes, record_bytes}
use Rattle.fx_record.specs.Reading.{stated, IsCut}
use Rattle.fx_record.specs.Commits.{IsCommit, records_of, records_bytes, commits_bytes, CutsRecords, CutsCommits}
use Rattle.fx_record.proofs.Parts.{record_len, read_whole, short_body}
use Rattle.fx_record.proofs.Commits.{Items, are_records, length-records_of, take-records_of, least_length}

-- Fewer bytes than a record has, from its front, are cut.
pub short_is_cut : (x : PlainRecord) (cut rest more : List ℕ) → IsRecord x → cut ++ rest ≡ record_bytes x ++ more → length cut < length (record_bytes x) → IsCut cut
short_is_cut x cut rest more h e lt =
    elim (cases_lt (length cut) 4) [
      | inl few ↦ omega arith
      | inr le ↦ (
          let whole = read_whole x more (short_body x h) in
          let same : stated cut ≡ length (body_bytes x) = sym (little_from-append 4 cut rest le) ∙ ap stated e ∙ whole.stated_is in
          omega (arith, same, record_len x))
    ]

-- Bytes that are no fewer than a record has, from its front, begin with it.
long_has : (text cut rest more : List ℕ) → cut ++ rest ≡ text ++ more → length text ≤ length cut → cut ≡ text ++ drop (length text) cut
long_has text cut rest more e le =
    let front : take (length text) cut ≡ text = sym (take-append-le (length text) cut rest le) ∙ ap (take (length text)) e ∙ take_at text more (length text) refl in
    sym (take-append-drop (length text) cut) ∙ ap (λ (w : List ℕ). w ++ drop (length text) cut) front

pub empty_is_cut : IsCut []
empty_is_cut = omega arith

nothing_before : (a b : List ℕ) → a ++ b ≡ [] → a ≡ []
nothing_before [] b e = refl
nothing_before (x ∷ a) b e = absurd cc

cut_first : (x : PlainRecord) (xs : List PlainRecord) (cut rest : List ℕ) → IsRecord x → cut ++ rest ≡ records_bytes (x ∷ xs) → length cut < length (record_bytes x) → CutsRecords (x ∷ xs) cut 0
cut_first x xs cut rest h e lt = record {
  tail = cut;
  most = omega arith;
  parts = refl;
  is_cut = short_is_cut x cut rest (records_bytes xs) h e lt;
  whole = λ n le fits. none n fits;
} where
  none : (n : ℕ) → length (records_bytes (take n (x ∷ xs))) ≤ length cut → n ≤ 0
  none zero fits = omega arith
  none (suc n) fits = absurd (omega (arith, length-append (record_bytes x) (records_bytes (take n xs))))

cut_more : (x : PlainRecord) (xs : List PlainRecord) (cut rest : List ℕ) (count : ℕ) → cut ≡ record_bytes x ++ rest → CutsRecords xs rest count → CutsRecords (x ∷ xs) cut (suc count)
cut_more x xs cut rest count e h = record {
  tail = h.tail;
  most = omega (arith, h.most);
  parts = e ∙ ap (λ (w : List ℕ). record_bytes x ++ w) h.parts ∙ sym (append_assoc (record_bytes x) (records_bytes (take count xs)) h.tail);
  is_cut = h.is_cut;
  whole = within;
} where
  within : (n : ℕ) → n ≤ length (x ∷ xs) → length (records_bytes (take n (x ∷ xs))) ≤ length cut → n ≤ suc count
  within zero le fits = omega arith
  within (suc n) le fits =
      let more = h.whole n (omega arith) (omega (arith, ap length e, length-append (record_bytes x) rest, length-append (record_bytes x) (records_bytes (take n xs)))) in
      omega (arith, more)

pub cut_records : (records : List PlainRecord) (cut rest : List ℕ) → All IsRecord records → cut ++ rest ≡ records_bytes records → (count : ℕ) × CutsRecords records cut count × (rest ≡ [] → count ≡ length records)
cut_records [] cut rest h e = (
  0,
  record {
    tail = [];
    most = omega arith;
    parts = nothing_before cut rest e;
    is_cut = empty_is_cut;
    whole = λ n le fits. omega arith;
  },
  λ none. refl,
)
cut_records (x ∷ xs) cut rest h e =
    let is_x = All-head IsRecord x xs h in
    elim (cases_lt (length cut) (length (record_bytes x))) [
      | inl lt ↦ (0, cut_first x xs cut rest is_x e lt, λ none. absurd (omega (arith, ap length e, ap length none, length-append cut rest, length-append (record_bytes x) (records_bytes xs))))
      | inr le ↦ (
          let left = drop (length (record_bytes x)) cut in
          let parts : cut ≡ record_bytes x ++ left = long_has (record_bytes x) cut rest (records_bytes xs) e le in
          let after : left ++ rest ≡ records_bytes xs =
          append_cancel_left (record_bytes x) (left ++ rest) (records_bytes xs) (sym (append_assoc (record_bytes x) left rest) ∙ ap (λ (w : List ℕ). w ++ rest) (sym parts) ∙ e) in
          let more = cut_records xs left rest (All-tail IsRecord x xs h) after in
          (suc more.0, cut_more x xs cut left more.0 parts more.1, λ none. ap suc (more.2 none)))
    ]

-- ---- of commits

take_bytes : (last k : ℕ) (commits : List Items) → records_bytes (take k (records_of last commits)) ≡ commits_bytes last (take k commits)
take_bytes last k commits = ap records_bytes (take-records_of last k commits)

of_commits : (last : ℕ) (commits : List Items) (bytes : List ℕ) (count : ℕ) → CutsRecords (records_of last commits) bytes count → CutsCommits last commits bytes count
of_commits last commits bytes count h = record {
  tail = h.tail;
  most = omega (arith, h.most, length-records_of last commits);
  parts = h.parts ∙ ap (λ (w : List ℕ). w ++ h.tail) (take_bytes last count commits);
  is_cut = h.is_cut;
  whole = λ n le fits. h.whole n (omega (arith, length-records_of last commits)) (omega (arith, ap length (take_bytes last n commits)));
}

pub cut_commits : (last : ℕ) (commits : List Items) (cut rest : List ℕ) → last + length commits < 2 ^ 64 → All IsCommit commits → cut ++ rest ≡ commits_bytes last commits →
    (count : ℕ) × CutsCommits last commits cut count × (rest ≡ [] → count ≡ length commits)
cut_commits last commits cut rest fits each e =
    let found = cut_records (records_of last commits) cut rest (are_records last commits fits each) e in
    (found.0, of_commits last commits cut found.0 found.1, λ none. found.2 none ∙ length-records_of last commits)

-- More bytes keep no fewer commits.
pub cut_grows : (last : ℕ) (commits : List Items) (cut longer : List ℕ) (few many : ℕ) → CutsCommits last commits cut few → CutsCommits last commits longer many → length cut ≤ length longer → few ≤ many
cut_grows last commits cut longer few many p q le =
    q.whole few p.most (omega (arith, ap length p.parts, length-append (commits_bytes last (take few commits)) p.tail))

pub one_cut : (last : ℕ) (commits : List Items) (cut : List ℕ) (i j : ℕ) → CutsCommits last commits cut i → CutsCommits last commits cut j → i ≡ j
one_cut last commits cut i j p q =
    omega (arith, cut_grows last commits cut cut i j p q (omega arith), cut_grows last commits cut cut j i q p (omega arith))

-- The first blocks hold the first bytes.
pub first_blocks : (j : ℕ) (texts : List (List ℕ)) (rest : List ℕ) → concat (take j texts) ++ (concat (drop j texts) ++ rest) ≡ concat texts ++ rest
first_blocks j texts rest =
    sym (append_assoc (concat (take j texts)) (concat (drop j texts)) rest)
    ∙ ap (λ (w : List ℕ). w ++ rest) (sym (concat-append (take j texts) (drop j texts)) ∙ ap concat (take-append-drop j texts))

pub more_blocks : (i j : ℕ) (texts : List (List ℕ)) → i ≤ j → length (concat (take i texts)) ≤ length (concat (take j texts))
more_blocks zero j texts le = omega arith
more_blocks (suc i) zero texts le = absurd (omega arith)
more_blocks (suc i) (suc j) [] le = omega arith
more_blocks (suc i) (suc j) (t ∷ texts) le =
    omega (arith, more_blocks i j texts (omega arith), length-append t (concat (take i texts)), length-append t (concat (take j texts)))

-- Commits whose bytes lie in the first blocks are kept with these.
pub kept_commits : (last : ℕ) (commits : List Items) (texts : List (List ℕ)) (m j n count : ℕ) → CutsCommits last commits (concat (take j texts)) count → n ≤ length commits → m ≤ j →
    length (commits_bytes last (take n commits)) ≤ length (concat (take m texts)) → n ≤ count
kept_commits last commits texts m j n count h le first held = h.whole n le (omega (arith, held, more_blocks m j texts first))

-- Where there are no bytes there are no commits.
pub keeps_none : (last : ℕ) (commits : List Items) (cut : List ℕ) (count : ℕ) → CutsCommits last commits cut count → cut ≡ [] → count ≡ 0
keeps_none last commits cut count h e =
    omega (arith, h.most, ap length h.parts, ap length e, length-append (commits_bytes last (take count commits)) h.tail, least_length last (take count commits), length-take count commits)
