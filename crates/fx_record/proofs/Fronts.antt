-- Records that stand first in texts: one reading after another, and that there is but one.
use Rattle.std.proofs.Common.{◌≡◌, ℕ, List, [], ◌∷◌, ◌++◌, length, ◌⊎◌, refl, sym, ap, subst, ◌∙◌, append-nil, inl, inr}
use Rattle.std.specs.Prelude.{IsTrue}
use Rattle.std.proofs.lemmas.Bool.{and_parts}
use Rattle.std.proofs.lemmas.List.{append_cancel_left}
use Rattle.fx_item.specs.Item.{PlainItem}
use Rattle.fx_record.specs.Record.{PlainRecord, IsRecord, record_bytes}
use Rattle.fx_record.specs.Reading.{IsCut}
use Rattle.fx_record.specs.Txns.{Front, Nothing, First, Dropped, number_of, may_come, in_order, last_number, txns_left_by, IsTxns, IsWrong, IsBadRecord}
use Rattle.fx_record.specs.declared.record.RecordFault.TheVariants as faults
use Rattle.fx_record.proofs.Faults.{no_fault, same_record}
use Rattle.fx_record.proofs.Numbers.{in_order_rest}

pub front_then : {a b c : List (List ℕ)} {xs ys : List PlainRecord} → Front a xs b → Front b ys c → Front a (xs ++ ys) c
front_then Nothing q = q
front_then (First h e p) q = First h e (front_then p q)
front_then (Dropped h p) q = Dropped h (front_then p q)

pub not_cut : (text rest : List ℕ) (x : PlainRecord) → IsRecord x → text ≡ record_bytes x ++ rest → IsCut text → ⊥
not_cut text rest x h e cut = no_fault x text rest faults.Cut h e cut

-- Of two readings one goes on where the other ends.
abbrev Meet : List (List ℕ) → List (List ℕ) → List PlainRecord → List PlainRecord → Type 0
Meet b c xs ys =
    ((more : List PlainRecord) × (ys ≡ xs ++ more) × Front b more c)
    ⊎ ((more : List PlainRecord) × (xs ≡ ys ++ more) × Front c more b)

meet_after : (b c : List (List ℕ)) (x y : PlainRecord) (xs ys : List PlainRecord) → x ≡ y → Meet b c xs ys → Meet b c (x ∷ xs) (y ∷ ys)
meet_after b c x y xs ys e m =
    elim m [
      | inl k ↦ inl (k.0, ap (λ (z : PlainRecord). z ∷ ys) (sym e) ∙ ap (λ (w : List PlainRecord). x ∷ w) k.1, k.2)
      | inr k ↦ inr (k.0, ap (λ (z : PlainRecord). z ∷ xs) e ∙ ap (λ (w : List PlainRecord). y ∷ w) k.1, k.2)
    ]

front_meets : {a b c : List (List ℕ)} {xs ys : List PlainRecord} → Front a xs b → Front a ys c → Meet b c xs ys
front_meets {ys = ys} Nothing q = inl (ys, refl, q)
front_meets {xs = xs} p Nothing = inr (xs, refl, p)
front_meets {b = b} {c = c} (First {rest = rest} {more = more} {x = x} {records = xs} h e p) (First {rest = left} {x = y} {records = ys} g f q) =
    let same = same_record x y rest left h g (sym e ∙ f) in
    let parts : rest ≡ left = append_cancel_left (record_bytes x) rest left (sym e ∙ f ∙ ap (λ (z : PlainRecord). record_bytes z ++ left) (sym same)) in
    meet_after b c x y xs ys same (front_meets p (subst (λ (w : List ℕ). Front (w ∷ more) ys c) (sym parts) q))
front_meets (First {text = text} {rest = rest} {x = x} h e p) (Dropped cut q) = absurd (not_cut text rest x h e cut)
front_meets (Dropped {text = text} cut p) (First {rest = left} {x = y} g f q) = absurd (not_cut text left y g f cut)
front_meets (Dropped cut p) (Dropped other q) = front_meets p q

-- ---- ends

none_in_nothing : {c : List (List ℕ)} {ys : List PlainRecord} → Front [] ys c → (ys ≡ []) × (c ≡ [])
none_in_nothing Nothing = (refl, refl)

-- Nothing goes on where a record is wrong.
stuck : {text : List ℕ} {more c : List (List ℕ)} {ys : List PlainRecord} (base last : ℕ) → Front (text ∷ more) ys c → IsWrong base last text → IsTrue (in_order base last ys) → (ys ≡ []) × (c ≡ text ∷ more)
stuck base last Nothing wrong ordered = (refl, refl)
stuck base last (First {rest = rest} {x = x} {records = ys} h e p) wrong ordered =
    let comes = (and_parts (may_come base last x) (in_order base (number_of x) ys) ordered).0 in
    let fails = wrong.1 x rest h e in
    absurd cc
stuck base last (Dropped cut p) wrong ordered = absurd (wrong.0 cut)

abbrev Blocks : Type 0
Blocks = List (ℕ × List ℕ)

pub one_answer : (base : ℕ) (blocks : Blocks) (a b : List (ℕ × List PlainItem)) → IsTxns base blocks a → IsTxns base blocks b → a ≡ b
one_answer base blocks a b p q =
    let same : p.records ≡ q.records = elim (front_meets p.read q.read) [
      | inl k ↦ sym (k.1 ∙ ap (λ (w : List PlainRecord). p.records ++ w) (none_in_nothing k.2).0 ∙ append-nil p.records)
      | inr k ↦ k.1 ∙ ap (λ (w : List PlainRecord). q.records ++ w) (none_in_nothing k.2).0 ∙ append-nil q.records
    ] in
    p.txns_are ∙ ap txns_left_by same ∙ sym q.txns_are

pub not_both : (base : ℕ) (blocks : Blocks) (a : List (ℕ × List PlainItem)) (place : ℕ) → IsTxns base blocks a → IsBadRecord base blocks place → ⊥
not_both base blocks a place p q =
    elim (front_meets p.read q.read) [
      | inl k ↦ (let e = (none_in_nothing k.2).1 in cc)
      | inr k ↦ (
          let rest = in_order_rest base base q.records k.0 (subst (λ (w : List PlainRecord). IsTrue (in_order base base w)) k.1 p.ordered) in
          let e = (stuck base (last_number base q.records) k.2 q.wrong rest).1 in
          cc)
    ]

pub one_place : (base : ℕ) (blocks : Blocks) (i j : ℕ) → IsBadRecord base blocks i → IsBadRecord base blocks j → i ≡ j
one_place base blocks i j p q =
    let same : p.records ≡ q.records = elim (front_meets p.read q.read) [
      | inl k ↦ (
          let rest = in_order_rest base base p.records k.0 (subst (λ (w : List PlainRecord). IsTrue (in_order base base w)) k.1 q.ordered) in
          let e = (stuck base (last_number base p.records) k.2 p.wrong rest).0 in
          sym (k.1 ∙ ap (λ (w : List PlainRecord). p.records ++ w) e ∙ append-nil p.records))
      | inr k ↦ (
          let rest = in_order_rest base base q.records k.0 (subst (λ (w : List PlainRecord). IsTrue (in_order base base w)) k.1 p.ordered) in
          let e = (stuck base (last_number base q.records) k.2 q.wrong rest).0 in
          k.1 ∙ ap (λ (w : List PlainRecord). q.records ++ w) e ∙ append-nil q.records)
    ] in
    sym p.place_is ∙ ap length same ∙ q.place_is
