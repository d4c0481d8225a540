-- What a change of one part leaves of what is so of all fields, and what event it is.
use Rattle.std.proofs.Common.{◌≡◌, inl, inr, ℕ, ◌+◌, ◌≤◌, Some, None, sym, ap, subst, ◌∙◌, arith}
use Rattle.std.specs.FinMap as finite
use Rattle.std.specs.FinMap.{same_map, nat_cmp-IsAntisymmetric}
use Rattle.std.specs.Ordering.{nat_cmp}
use Rattle.std.specs.Cmp.{nat_cmp_total}
use Rattle.std.proofs.lemmas.Bool.{cases_eq}
use Rattle.fx_keys.specs.Table.{Table}
use Rattle.fx_plain.specs.Tree.{Tree}
use Rattle.fx_parts.specs.Parts.{Part}
use Rattle.fx_parts.specs.Sound.{KeysAgree}
use Rattle.fx_parts.specs.Happening.{by_part, set_keys, set_part}
use Rattle.fx_parts.proofs.Agreeing.{keys_kept}
use Rattle.fx_parts.proofs.Events.{by_there}
use Rattle.fx_parts.proofs.Maps.{found, gone_other, gone_same, get_other, get_same, some_is}
use Rattle.fx_numbers.specs.Slots.{IsNumber, PartMap, promised_by}
use Rattle.fx_numbers.specs.State.{NumbersState, shared_of}
use Rattle.fx_numbers.specs.Inner.{AreNumbers, numbers_from}
use Rattle.fx_numbers.specs.declared.numbers.Numbers.TheInside.{Inside}

insert_removed : (m : finite.FinMap nat_cmp Part) (k : ℕ) (x : Part) → finite.insert (finite.remove m k) k x ≡ finite.insert m k x
insert_removed m k x = same_map nat_cmp_total nat_cmp-IsAntisymmetric _ _ (λ q. elim (cases_eq q k) [
  | inl e ↦ subst (λ z. finite.get (finite.insert (finite.remove m k) k x) z ≡ finite.get (finite.insert m k x) z) (sym e) (get_same (finite.remove m k) k x ∙ sym (get_same m k x))
  | inr ne ↦ get_other (finite.remove m k) k q x ne ∙ gone_other m k q ne ∙ sym (get_other m k q x ne)
])

insert_itself : (m : finite.FinMap nat_cmp Part) (k : ℕ) (x : Part) → finite.get m k ≡ Some x → finite.insert m k x ≡ m
insert_itself m k x is = same_map nat_cmp_total nat_cmp-IsAntisymmetric _ _ (λ q. elim (cases_eq q k) [
  | inl e ↦ subst (λ z. finite.get (finite.insert m k x) z ≡ finite.get m z) (sym e) (get_same m k x ∙ sym is)
  | inr ne ↦ get_other m k q x ne
])

-- one part is another one now
pub record IsSwapped (old new : PartMap) (who : ℕ) (part after : Part) : Type 0 where
  pub was : finite.get old.parts who ≡ Some part
  pub number : IsNumber who
  pub parts : new.parts ≡ finite.insert old.parts who after
  pub reserved : new.reserved + promised_by part ≡ old.reserved + promised_by after

pub swapped : (old mid new : PartMap) (who : ℕ) (part after : Part) → finite.get old.parts who ≡ Some part → mid.parts ≡ finite.remove old.parts who → mid.reserved + promised_by part ≡ old.reserved → IsNumber who
    → new.parts ≡ finite.insert mid.parts who after → new.reserved ≡ mid.reserved + promised_by after → IsSwapped old new who part after
swapped old mid new who part after was gone less number put more = record {
  was = was;
  number = number;
  parts = put ∙ ap (λ m. finite.insert m who after) gone ∙ insert_removed old.parts who after;
  reserved = omega (arith, less, more);
}

-- a part that was taken out and put back
pub put_back : (old new : PartMap) (who : ℕ) (part after : Part) → IsSwapped old new who part after → after ≡ part → new.parts ≡ old.parts
put_back old new who part after sw same = sw.parts ∙ ap (finite.insert old.parts who) same ∙ insert_itself old.parts who part sw.was

pub is_gone : (old mid : PartMap) (who : ℕ) → mid.parts ≡ finite.remove old.parts who → finite.get mid.parts who ≡ None
is_gone old mid who gone = ap (λ m. finite.get m who) gone ∙ gone_same old.parts who

module _ (i : Inside) (v : NumbersState) (view : numbers_from i ≡ v) where
  pub part_in : (who : ℕ) (part : Part) → finite.get v.parts who ≡ Some part → finite.get i.parts.parts who ≡ Some part
  part_in who part is = ap (λ (z : NumbersState). finite.get z.parts who) view ∙ is

  pub part_out : (who : ℕ) (part : Part) → finite.get i.parts.parts who ≡ Some part → finite.get v.parts who ≡ Some part
  part_out who part is = ap (λ (z : NumbersState). finite.get z.parts who) (sym view) ∙ is

  -- the part that is taken out is the one that is known
  pub known_part : (who : ℕ) (known part : Part) → finite.get v.parts who ≡ Some known → finite.get i.parts.parts who ≡ Some part → known ≡ part
  known_part who known part is was = some_is known part (sym (part_in who known is) ∙ was)

-- ---- what stays so

module _ (i : Inside) (inv : AreNumbers i) (new : PartMap) (who : ℕ) (part after : Part) (sw : IsSwapped i.parts new who part after) where
  pub swapped_numbers : (q : ℕ) (p : Part) → finite.get new.parts q ≡ Some p → IsNumber q
  swapped_numbers q p is = elim (found i.parts.parts who q after p (ap (λ m. finite.get m q) (sym sw.parts) ∙ is)) [
    | inl here ↦ subst IsNumber (sym here.0) sw.number
    | inr old ↦ inv.numbers q p old.1
  ]

  pub swapped_keys : (t : Table) → KeysAgree t (finite.insert i.parts.parts who after) → KeysAgree t new.parts
  swapped_keys t agree = subst (KeysAgree t) (sym sw.parts) agree

  pub kept_keys : after.grants ≡ part.grants → after.room ≡ part.room → KeysAgree i.table new.parts
  kept_keys grants room = swapped_keys i.table (keys_kept i.table i.parts.parts who inv.keys part after sw.was grants room)

  -- a part with nothing more reserved, and maybe another table
  pub still : (t : Table) → KeysAgree t (finite.insert i.parts.parts who after) → promised_by after ≤ promised_by part → AreNumbers (record i { table = t; parts = new })
  still t agree fewer = record {
    keys = swapped_keys t agree;
    numbers = swapped_numbers;
    number = inv.number;
    settled = inv.settled;
    folded = inv.folded;
    upto = inv.upto;
    notes = let h = inv.notes in omega (arith, h, fewer, sw.reserved);
    batches = λ some. let h = inv.batches (omega (arith, some, fewer, sw.reserved)) in omega (arith, h, fewer, sw.reserved);
  }

  pub still_same : after.grants ≡ part.grants → after.room ≡ part.room → promised_by after ≤ promised_by part → AreNumbers (record i { parts = new })
  still_same grants room fewer = still i.table (keys_kept i.table i.parts.parts who inv.keys part after sw.was grants room) fewer

  -- a part that was put back as it was
  pub undone : (t : Table) → t ≡ i.table → after ≡ part → AreNumbers (record i { table = t; parts = new })
  undone t table same = still t
      (subst (λ z. KeysAgree z (finite.insert i.parts.parts who after)) (sym table) (keys_kept i.table i.parts.parts who inv.keys part after sw.was (ap (λ (p : Part). p.grants) same) (ap (λ (p : Part). p.room) same)))
      (omega (arith, ap promised_by same))

-- ---- which event it is

pub undone_state : (i : Inside) (v : NumbersState) → numbers_from i ≡ v → (new : PartMap) (who : ℕ) (part after : Part) → IsSwapped i.parts new who part after → (t : Table) → t ≡ i.table → after ≡ part → numbers_from (record i { table = t; parts = new }) ≡ v
undone_state i v view new who part after sw t table same =
    ap (λ m. let w : NumbersState = record (numbers_from i) { table = t; parts = m } in w) (put_back i.parts new who part after sw same)
    ∙ ap (λ z. let w : NumbersState = record (numbers_from i) { table = z } in w) table
    ∙ view

module _ (i : Inside) (v : NumbersState) (view : numbers_from i ≡ v) (new : PartMap) (who : ℕ) (part after : Part) (sw : IsSwapped i.parts new who part after) (tree : Tree) where
  -- the table and the part, as the change of the shared state
  set_both : (t : Table) → shared_of tree (numbers_from (record i { table = t; parts = new })) ≡ set_keys t who after (shared_of tree v)
  set_both t =
      ap (λ m. shared_of tree (record (numbers_from i) { table = t; parts = m })) sw.parts
      ∙ ap (λ (z : NumbersState). shared_of tree (record z { table = t; parts = finite.insert z.parts who after })) view

  set_one : shared_of tree (numbers_from (record i { parts = new })) ≡ set_part who after (shared_of tree v)
  set_one =
      ap (λ m. shared_of tree (record (numbers_from i) { parts = m })) sw.parts
      ∙ ap (λ (z : NumbersState). shared_of tree (record z { parts = finite.insert z.parts who after })) view

  pub keys_step : (t : Table) (f : Part → Part) → after ≡ f part → shared_of tree (numbers_from (record i { table = t; parts = new })) ≡ by_part (shared_of tree v) who (λ p. set_keys t who (f p) (shared_of tree v))
  keys_step t f is = by_there (λ z. shared_of tree (numbers_from (record i { table = t; parts = new })) ≡ z) (shared_of tree v) who part (λ p. set_keys t who (f p) (shared_of tree v)) (part_out i v view who part sw.was)
      (set_both t ∙ ap (λ p. set_keys t who p (shared_of tree v)) is)

  pub part_step : (f : Part → Part) → after ≡ f part → shared_of tree (numbers_from (record i { parts = new })) ≡ by_part (shared_of tree v) who (λ p. set_part who (f p) (shared_of tree v))
  part_step f is = by_there (λ z. shared_of tree (numbers_from (record i { parts = new })) ≡ z) (shared_of tree v) who part (λ p. set_part who (f p) (shared_of tree v)) (part_out i v view who part sw.was)
      (set_one ∙ ap (λ p. set_part who p (shared_of tree v)) is)
