-- The first blocks of one epoch are the first run.
use Rattle.std.proofs.Common.{◌≡◌, ◌≢◌, ℕ, zero, suc, ◌+◌, ◌<◌, ◌≤◌, Bool, true, false, cond, eqb, List, [], ◌∷◌, ◌++◌, length, get_or, map, take, drop, refl, sym, ap, ◌∙◌, append-nil, arith, length-append}
use Rattle.std.proofs.lemmas.Bool.{eq-eqb, ne_eqb}
use Rattle.std.proofs.lemmas.List.{take-append-drop, map-append, at_drop_more, flat_map_more, take_more, get_or_default}
use Rattle.std.proofs.lemmas.List.Concat.{flat_map-append}
use Rattle.fx_record.specs.Txns.{pieces_of, onto, runs, epoch_texts, all_bytes}
use Rattle.fx_record.specs.declared.txns.Piece.{Piece}

-- a block before blocks of another epoch
onto_apart : (b q : ℕ × List ℕ) (rest : List (ℕ × List ℕ)) → eqb b.0 q.0 ≡ false → onto b (onto q rest) ≡ b ∷ onto q rest
onto_apart b q [] e = rw e refl
onto_apart b q (r ∷ rest) e =
    elim (eqb q.0 r.0) as (λ (t : Bool). onto b (cond t ((q.0, q.1 ++ r.1) ∷ rest) (q ∷ r ∷ rest)) ≡ b ∷ cond t ((q.0, q.1 ++ r.1) ∷ rest) (q ∷ r ∷ rest)) [
      | true ↦ rw e refl
      | false ↦ rw e refl
    ]

abbrev Same : ℕ → Piece → List Piece → Type 0
Same n p pieces = (k : ℕ) (d : Piece) → k < n → (get_or pieces k d).epoch ≡ p.epoch

abbrev Ends : ℕ → Piece → List Piece → Type 0
Ends n p pieces = (d : Piece) → n < length pieces → (get_or pieces n d).epoch ≢ p.epoch

alone : (b : ℕ × List ℕ) → (let blocks : List (ℕ × List ℕ) = b ∷ [] in blocks) ≡ (b.0, b.1 ++ []) ∷ []
alone b = ap (λ (w : List ℕ). let blocks : List (ℕ × List ℕ) = (b.0, w) ∷ [] in blocks) (sym (append-nil b.1))

first_run : (n : ℕ) (p : Piece) (pieces : List Piece) → Same n p pieces → Ends n p pieces →
    runs (pieces_of (p ∷ pieces)) ≡ (p.epoch, p.records ++ all_bytes (pieces_of (take n pieces))) ∷ runs (pieces_of (drop n pieces))
first_run zero p [] same ends = alone (p.epoch, p.records)
first_run (suc n) p [] same ends = alone (p.epoch, p.records)
first_run zero p (q ∷ rest) same ends =
    let other : p.epoch ≢ q.epoch = λ e. ends q (omega arith) (sym e) in
    onto_apart (p.epoch, p.records) (q.epoch, q.records) (runs (pieces_of rest)) (ne_eqb p.epoch q.epoch other)
    ∙ ap (λ (w : List ℕ). (p.epoch, w) ∷ runs (pieces_of (q ∷ rest))) (sym (append-nil p.records))
first_run (suc n) p (q ∷ rest) same ends =
    let here : q.epoch ≡ p.epoch = same 0 q (omega arith) in
    let after = first_run n q rest (λ k d lt. same (suc k) d (omega arith) ∙ sym here) (λ d lt e. ends d (omega arith) (e ∙ here)) in
    let test : eqb p.epoch q.epoch ≡ true = eq-eqb p.epoch q.epoch (sym here) in
    ap (onto (p.epoch, p.records)) after ∙ rw test refl

pub first_text : (pieces : List Piece) (n : ℕ) (p : Piece) → 1 ≤ n → n ≤ length pieces → ((k : ℕ) (d : Piece) → k < n → (get_or pieces k d).epoch ≡ p.epoch) → ((d : Piece) → n < length pieces → (get_or pieces n d).epoch ≢ p.epoch) →
    epoch_texts (pieces_of pieces) ≡ all_bytes (pieces_of (take n pieces)) ∷ epoch_texts (pieces_of (drop n pieces))
first_text pieces zero p some most same ends = absurd (omega arith)
first_text [] (suc n) p some most same ends = absurd (omega arith)
first_text (q ∷ rest) (suc n) p some most same ends =
    let here : q.epoch ≡ p.epoch = same 0 q (omega arith) in
    ap (map (λ run. run.1)) (first_run n q rest (λ k d lt. same (suc k) d (omega arith) ∙ sym here) (λ d lt e. ends d (omega arith) (e ∙ here)))

-- the first block is of its own epoch
pub not_first : (pieces : List Piece) (i : ℕ) (d q : Piece) → 1 ≤ length pieces → q ≡ get_or pieces i q → (q.epoch ≡ (get_or pieces 0 d).epoch → ⊥) → 1 ≤ i
not_first pieces zero d q some here other =
    absurd (other (ap (λ (w : Piece). w.epoch) (here ∙ get_or_default pieces 0 q d (omega arith))))
not_first pieces (suc i) d q some here other = omega arith

-- ---- joining

pub bytes_split : (n : ℕ) (pieces : List Piece) → all_bytes (pieces_of pieces) ≡ all_bytes (pieces_of (take n pieces)) ++ all_bytes (pieces_of (drop n pieces))
bytes_split n pieces =
    ap (λ (w : List Piece). all_bytes (pieces_of w)) (sym (take-append-drop n pieces))
    ∙ ap all_bytes (map-append (λ (p : Piece). (p.epoch, p.records)) (take n pieces) (drop n pieces))
    ∙ flat_map-append (λ (b : ℕ × List ℕ). b.1) (pieces_of (take n pieces)) (pieces_of (drop n pieces))

pub len_more : (pieces : List Piece) (i : ℕ) (p : Piece) → i < length pieces → p ≡ get_or pieces i p →
    length (all_bytes (pieces_of (drop i pieces))) ≡ length p.records + length (all_bytes (pieces_of (drop (i + 1) pieces)))
len_more pieces i p lt e =
    let rest = drop (i + 1) pieces in
    at_drop_more (λ (w : List Piece). length (all_bytes (pieces_of w))) pieces i p lt
    ∙ ap (λ (y : Piece). length (all_bytes (pieces_of (y ∷ rest)))) (sym e)
    ∙ length-append p.records (all_bytes (pieces_of rest))

pub bytes_more : (pieces : List Piece) (i : ℕ) (p : Piece) → i < length pieces → p ≡ get_or pieces i p →
    all_bytes (pieces_of (take i pieces)) ++ p.records ≡ all_bytes (pieces_of (take (i + 1) pieces))
bytes_more pieces i p lt e =
    let front = take i pieces in
    flat_map_more (λ (b : ℕ × List ℕ). b.1) [] (pieces_of front) (p.epoch, p.records)
    ∙ ap all_bytes (sym (map-append (λ (q : Piece). (q.epoch, q.records)) front (p ∷ [])))
    ∙ ap (λ (y : Piece). all_bytes (pieces_of (front ++ y ∷ []))) e
    ∙ ap (λ (w : List Piece). all_bytes (pieces_of w)) (sym (take_more pieces i p lt))

pub next_text : (rest run others : List Piece) (n : ℕ) (text : List ℕ) → epoch_texts (pieces_of rest) ≡ all_bytes (pieces_of (take n rest)) ∷ epoch_texts (pieces_of (drop n rest)) → run ≡ take n rest → others ≡ drop n rest → text ≡ all_bytes (pieces_of run) →
    epoch_texts (pieces_of rest) ≡ text ∷ epoch_texts (pieces_of others)
next_text rest run others n text e front back joined =
    e
    ∙ ap (λ (w : List ℕ). w ∷ epoch_texts (pieces_of (drop n rest))) (sym (joined ∙ ap (λ (w : List Piece). all_bytes (pieces_of w)) front))
    ∙ ap (λ (w : List Piece). text ∷ epoch_texts (pieces_of w)) (sym back)

pub next_len : (rest run others : List Piece) (n : ℕ) (text : List ℕ) → run ≡ take n rest → others ≡ drop n rest → text ≡ all_bytes (pieces_of run) →
    length (all_bytes (pieces_of rest)) ≡ length text + length (all_bytes (pieces_of others))
next_len rest run others n text front back joined =
    ap length (bytes_split n rest)
    ∙ length-append (all_bytes (pieces_of (take n rest))) (all_bytes (pieces_of (drop n rest)))
    ∙ ap (λ (w : List Piece). length (all_bytes (pieces_of w)) + length (all_bytes (pieces_of (drop n rest)))) (sym front)
    ∙ ap (λ (w : List ℕ). length w + length (all_bytes (pieces_of (drop n rest)))) (sym joined)
    ∙ ap (λ (w : List Piece). length text + length (all_bytes (pieces_of w))) (sym back)
