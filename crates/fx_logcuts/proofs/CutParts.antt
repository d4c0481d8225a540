-- A cut of blocks and commits: what lies past it, and that it stays one.
use Rattle.std.proofs.Common.{◌≡◌, ℕ, zero, suc, ◌+◌, ◌-◌, ◌≤◌, inl, inr, List, [], ◌∷◌, ◌++◌, length, take, drop, refl, sym, subst, ◌∙◌, ap, arith, append_assoc, append-nil, length-append, length-drop, Some}
use Rattle.std.proofs.lemmas.Bool.{cases_lt}
use Rattle.std.proofs.lemmas.List.{append_cancel_left, length-take, take-append-drop, take-append-le}
use Rattle.std.proofs.lemmas.List.Concat.{flat_map-append}
use Rattle.std.proofs.Math.Seq.{take-length}
use Rattle.fx_item.specs.Item.{PlainItem}
use Rattle.fx_record.specs.Commits.{commits_bytes}
use Rattle.fx_record.proofs.Commits.{commits_bytes-append, least_length}
use Rattle.fx_journal.specs.Ring.{Queued, texts}
use Rattle.fx_supers.specs.Supers.{Origin, SuperCut}
use Rattle.fx_supers.specs.SessionLog.{IsNoEarlier}
use Rattle.fx_logcuts.specs.Cuts.{AreAppended, CutsAt, IsCutSuper}

abbrev pub Lists : Type 0
Lists = List (List PlainItem)

abbrev pub text_in : Queued → List ℕ
text_in q = q.text

pub texts-joined : (xs ys : List Queued) → texts (xs ++ ys) ≡ texts xs ++ texts ys
texts-joined xs ys = flat_map-append text_in xs ys

pub texts-parts : (n : ℕ) (blocks : List Queued) → texts blocks ≡ texts (take n blocks) ++ texts (drop n blocks)
texts-parts n blocks = ap texts (sym (take-append-drop n blocks)) ∙ texts-joined (take n blocks) (drop n blocks)

-- the texts of fewer blocks are no longer
pub texts-short : (blocks : List Queued) (m n : ℕ) → m ≤ n → length (texts (take m blocks)) ≤ length (texts (take n blocks))
texts-short [] zero zero le = omega arith
texts-short [] zero (suc n) le = omega arith
texts-short [] (suc m) zero le = absurd (omega (arith, le))
texts-short [] (suc m) (suc n) le = omega arith
texts-short (q ∷ qs) zero n le = omega arith
texts-short (q ∷ qs) (suc m) zero le = absurd (omega (arith, le))
texts-short (q ∷ qs) (suc m) (suc n) le =
    omega (arith, texts-short qs m n (omega (arith, le)), length-append q.text (texts (take m qs)), length-append q.text (texts (take n qs)))

-- the first elements, and then the first of the others
module _ {X : Type 0} where
  pub take-none : (k : ℕ) → take {A = X} k [] ≡ []
  take-none zero = refl
  take-none (suc k) = refl

  pub take-parts : (n k : ℕ) (xs : List X) → take (n + k) xs ≡ take n xs ++ take k (drop n xs)
  take-parts zero k xs = ap (λ (m : ℕ). take m xs) (omega arith)
  take-parts (suc n) k [] = take-none (suc n + k) ∙ sym (take-none k)
  take-parts (suc n) k (x ∷ xs) = let e : suc n + k ≡ suc (n + k) = omega arith in ap (λ (m : ℕ). take m (x ∷ xs)) e ∙ ap (λ (ys : List X). x ∷ ys) (take-parts n k xs)

-- the commits before the cut and those after it
pub commits-parts : (last count : ℕ) (commits : Lists) → count ≤ length commits → commits_bytes last commits ≡ commits_bytes last (take count commits) ++ commits_bytes (last + count) (drop count commits)
commits-parts last count commits le =
    let long : length (take count commits) ≡ count = omega (arith, length-take count commits, le) in
    ap (commits_bytes last) (sym (take-append-drop count commits))
    ∙ commits_bytes-append last (take count commits) (drop count commits)
    ∙ ap (λ (k : ℕ). commits_bytes last (take count commits) ++ commits_bytes (last + k) (drop count commits)) long

module _ (opened : List ℕ) (last : ℕ) (blocks : List Queued) (commits : Lists) (n count : ℕ) (cut : CutsAt opened last blocks commits n count) where
  -- past it lie the commits after it
  pub past-cut : (text : List ℕ) → AreAppended opened last blocks text commits → texts (drop n blocks) ++ text ≡ commits_bytes (last + count) (drop count commits)
  past-cut text a =
      let before : List ℕ = texts (take n blocks) in
      let whole : before ++ (texts (drop n blocks) ++ text) ≡ opened ++ commits_bytes last commits =
      sym (append_assoc before (texts (drop n blocks)) text) ∙ ap (λ (w : List ℕ). w ++ text) (sym (texts-parts n blocks)) ∙ a.joined in
      let parts : opened ++ commits_bytes last commits ≡ before ++ commits_bytes (last + count) (drop count commits) =
      ap (λ (w : List ℕ). opened ++ w) (commits-parts last count commits cut.within)
      ∙ sym (append_assoc opened (commits_bytes last (take count commits)) (commits_bytes (last + count) (drop count commits)))
      ∙ ap (λ (w : List ℕ). w ++ commits_bytes (last + count) (drop count commits)) (sym cut.joined) in
      append_cancel_left before (texts (drop n blocks) ++ text) (commits_bytes (last + count) (drop count commits)) (whole ∙ parts)

  -- it stays one while further blocks are closed and further commits are made
  pub cut-stays : (more : List Queued) (others : Lists) → CutsAt opened last (blocks ++ more) (commits ++ others) n count
  cut-stays more others = record {
    few = omega (arith, cut.few, length-append blocks more);
    within = omega (arith, cut.within, length-append commits others);
    joined = ap texts (take-append-le n blocks more cut.few) ∙ cut.joined ∙ ap (λ (xs : Lists). opened ++ commits_bytes last xs) (sym (take-append-le count commits others cut.within));
  }

-- after all that was appended, with nothing unfinished
pub cut-now : (opened : List ℕ) (last : ℕ) (blocks : List Queued) (commits : Lists) → AreAppended opened last blocks [] commits → CutsAt opened last blocks commits (length blocks) (length commits)
cut-now opened last blocks commits a = record {
  few = omega arith;
  within = omega arith;
  joined = ap texts (take-length blocks) ∙ sym (append-nil (texts blocks)) ∙ a.joined ∙ ap (λ (xs : Lists). opened ++ commits_bytes last xs) (sym (take-length commits));
}

-- ---- a later cut

module _ (opened : List ℕ) (last : ℕ) (blocks : List Queued) (commits : Lists) where
  -- it is behind no fewer commits: a commit has bytes of its own
  pub cut-rises : (n m count other : ℕ) → CutsAt opened last blocks commits n count → CutsAt opened last blocks commits m other → n ≤ m → count ≤ other
  cut-rises n m count other a b le = elim (cases_lt other count) [
    | inr ge ↦ ge
    | inl lt ↦
        let sum : other + (count - other) ≡ count = omega (arith, lt) in
        let more : Lists = take (count - other) (drop other commits) in
        let parts : commits_bytes last (take count commits) ≡ commits_bytes last (take other commits) ++ commits_bytes (last + length (take other commits)) more =
        ap (λ (k : ℕ). commits_bytes last (take k commits)) (sym sum) ∙ ap (commits_bytes last) (take-parts other (count - other) commits) ∙ commits_bytes-append last (take other commits) more in
        absurd (omega (
          arith,
          lt,
          a.within,
          length-drop other commits,
          length-take (count - other) (drop other commits),
          least_length (last + length (take other commits)) more,
          ap length parts,
          length-append (commits_bytes last (take other commits)) (commits_bytes (last + length (take other commits)) more),
          ap length a.joined,
          ap length b.joined,
          length-append opened (commits_bytes last (take count commits)),
          length-append opened (commits_bytes last (take other commits)),
          texts-short blocks n m le,
        ))
  ]

  -- a superblock's base is no lower than that of one whose stream begins no later
  pub base-rises : (former latter : SuperCut) → IsCutSuper opened last blocks commits former → IsCutSuper opened last blocks commits latter → IsNoEarlier former.origin latter.origin → former.super.base ≤ latter.super.base
  base-rises former latter a b later =
      let le : a.n ≤ b.n = subst (λ (o : Origin). IsNoEarlier o (Some b.n)) a.origin (subst (λ (o : Origin). IsNoEarlier former.origin o) b.origin later) in
      let up : a.count ≤ b.count = cut-rises a.n b.n a.count b.count a.at b.at le in
      omega (arith, a.base, b.base, up)
