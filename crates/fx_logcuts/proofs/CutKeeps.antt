-- Which commits a stream that begins at a cut leaves.
use Rattle.std.proofs.Common.{◌≡◌, ℕ, zero, suc, ◌+◌, ◌-◌, ◌^◌, ◌≤◌, ◌<◌, inl, inr, List, [], ◌∷◌, ◌++◌, length, take, drop, map, refl, sym, subst, ◌∙◌, ap, arith, append_assoc, length-append, length-drop}
use Rattle.std.specs.Prelude.{All}
use Rattle.std.specs.List.{concat}
use Rattle.std.proofs.lemmas.Bool.{cases_lt}
use Rattle.std.proofs.lemmas.List.{length-take}
use Rattle.std.proofs.lemmas.List.Elements.{All-nil}
use Rattle.fx_item.specs.Item.{PlainItem}
use Rattle.fx_record.specs.Commits.{CutsCommits, IsCommit, blocks_of, commits_bytes, numbered}
use Rattle.fx_record.specs.Txns.{Front, IsTxns}
use Rattle.fx_record.proofs.Commits.{commits_bytes-append, same_length}
use Rattle.fx_record.proofs.Sessions.{stopped_session}
use Rattle.fx_journal.specs.Ring.{Queued, texts}
use Rattle.fx_log.specs.Ring.{as_stream}
use Rattle.fx_logcuts.specs.Cuts.{AreAppended, CutsAt, ShowsCommits, pieces_in}
use Rattle.fx_logcuts.proofs.CutParts.{Lists, past-cut, take-parts, text_in, texts-joined, texts-parts, texts-short}

texts-are_joined : (blocks : List Queued) → texts blocks ≡ concat (map text_in blocks)
texts-are_joined [] = refl
texts-are_joined (q ∷ qs) = ap (λ (w : List ℕ). q.text ++ w) (texts-are_joined qs)

pieces-are : (epoch : ℕ) (blocks : List Queued) → pieces_in (as_stream epoch blocks) ≡ blocks_of epoch (map text_in blocks)
pieces-are epoch [] = refl
pieces-are epoch (q ∷ qs) = ap (λ (w : List (ℕ × List ℕ)). (epoch, q.text) ∷ w) (pieces-are epoch qs)

all-drop : (n : ℕ) (xs : Lists) → All IsCommit xs → All IsCommit (drop n xs)
all-drop zero xs h = h
all-drop (suc n) [] h = h
all-drop (suc n) (x ∷ xs) h = all-drop n xs (λ k d lt. h (suc k) d (omega (arith, lt)))

-- no blocks leave no transactions
txns-none : (base : ℕ) → IsTxns base [] []
txns-none base = record { records = []; read = Front.Nothing; ordered = refl; txns_are = refl }

module _ (opened : List ℕ) (last : ℕ) (blocks : List Queued) (text : List ℕ) (commits : Lists) (a : AreAppended opened last blocks text commits)
    (n count : ℕ) (cut : CutsAt opened last blocks commits n count) (fits : last + length commits < 2 ^ 64) (epoch k : ℕ) where
  abbrev base : ℕ
  base = last + count

  abbrev later : Lists
  later = drop count commits

  abbrev stood : List Queued
  stood = take k (drop n blocks)

  abbrev rest : List ℕ
  rest = texts (drop k (drop n blocks)) ++ text

  zero-more : base + length {A = ℕ × List PlainItem} [] ≡ base
  zero-more = omega arith

  long-later : count + length later ≡ length commits
  long-later = omega (arith, length-drop count commits, cut.within)

  joined-later : concat (map text_in stood) ++ rest ≡ commits_bytes (base + length {A = ℕ × List PlainItem} []) later
  joined-later =
      ap (λ (w : List ℕ). w ++ rest) (sym (texts-are_joined stood))
      ∙ sym (append_assoc (texts stood) (texts (drop k (drop n blocks))) text)
      ∙ ap (λ (w : List ℕ). w ++ text) (sym (texts-parts k (drop n blocks)))
      ∙ past-cut opened last blocks commits n count cut text a
      ∙ ap (λ (b : ℕ). commits_bytes b later) (sym zero-more)

  stopped : (more : ℕ) × CutsCommits (base + length {A = ℕ × List PlainItem} []) later (concat (map text_in stood)) more
      × IsTxns base ([] ++ blocks_of epoch (map text_in stood)) ([] ++ numbered (base + length {A = ℕ × List PlainItem} []) (take more later)) × (rest ≡ [] → more ≡ length later)
  stopped = stopped_session base epoch [] [] later (map text_in stood) rest (txns-none base) (All-nil (λ (b : ℕ × List ℕ). b.0 < epoch)) (omega (arith, fits, long-later)) (all-drop count commits a.each) joined-later

  -- the first marks commits lie in the blocks that stand
  module _ (settled marks : ℕ) (within : settled ≤ n + k) (few : marks ≤ length commits)
      (whole : length opened + length (commits_bytes last (take marks commits)) ≤ length (texts (take settled blocks))) where
    reaches : length opened + length (commits_bytes last (take marks commits)) ≤ length (texts (take n blocks)) + length (texts stood)
    reaches =
        let parts : texts (take (n + k) blocks) ≡ texts (take n blocks) ++ texts stood = ap texts (take-parts n k blocks) ∙ texts-joined (take n blocks) stood in
        omega (arith, whole, texts-short blocks settled (n + k) within, ap length parts, length-append (texts (take n blocks)) (texts stood))

    past-marks : count ≤ marks → length (commits_bytes (base + length {A = ℕ × List PlainItem} []) (take (marks - count) later)) ≤ length (concat (map text_in stood))
    past-marks le =
        let long : length (take count commits) ≡ count = omega (arith, length-take count commits, cut.within) in
        let sum : count + (marks - count) ≡ marks = omega (arith, le) in
        let parts : commits_bytes last (take marks commits) ≡ commits_bytes last (take count commits) ++ commits_bytes (last + length (take count commits)) (take (marks - count) later) =
        ap (λ (m : ℕ). commits_bytes last (take m commits)) (sym sum) ∙ ap (commits_bytes last) (take-parts count (marks - count) commits) ∙ commits_bytes-append last (take count commits) (take (marks - count) later) in
        omega (
          arith,
          reaches,
          ap length cut.joined,
          length-append opened (commits_bytes last (take count commits)),
          ap length parts,
          length-append (commits_bytes last (take count commits)) (commits_bytes (last + length (take count commits)) (take (marks - count) later)),
          same_length (last + length (take count commits)) (base + length {A = ℕ × List PlainItem} []) (take (marks - count) later),
          ap length (texts-are_joined stood),
        )

    marks-reached : marks ≤ count + stopped.0
    marks-reached = elim (cases_lt marks count) [
      | inl lt ↦ omega (arith, lt)
      | inr ge ↦ let m : marks - count ≤ stopped.0 = stopped.1.whole (marks - count) (omega (arith, few, long-later, ge)) (past-marks ge) in omega (arith, m, ge)
    ]

    pub shows-commits : ShowsCommits (last + count) (as_stream epoch (take k (drop n blocks))) commits count marks
    shows-commits = record {
      more = stopped.0;
      most = let m = stopped.1.most in omega (arith, m, long-later);
      least = marks-reached;
      txns = subst (λ (b : ℕ). IsTxns base (pieces_in (as_stream epoch stood)) (numbered b (take stopped.0 later))) zero-more
          (subst (λ (w : List (ℕ × List ℕ)). IsTxns base w (numbered (base + length {A = ℕ × List PlainItem} []) (take stopped.0 later))) (sym (pieces-are epoch stood)) stopped.2);
    }
