-- The lists of the program, seen as levels, after each call.
use Rattle.std.proofs.Common.{◌≡◌, ℕ, List, ◌∷◌, ◌++◌, map, drop, None, sym, ◌∙◌, ap}
use Rattle.std.specs.Prelude.{Result, Ok, Err, IfOk}
use Rattle.std.proofs.lemmas.List.{map-append, drop-map}
use Rattle.fx_item.specs.Item.{PlainKey, PlainItem}
use Rattle.fx_item.specs.Place.{begins}
use Rattle.fx_merge.specs.Merge.{MergeState, merge_state}
use Rattle.fx_layerset.specs.Levels.{PlainLevel, SetLevels, batch_level, newest_first, merge_over, newest, below_newest, upper_levels, installed_levels, tidied}
use Rattle.fx_layerset.proofs.Newest.{merged_state}
use Rattle.fx_layerset.proofs.Replaced.{newest_map, below_newest_map}

pub merged_ok : {X E : Type 0} (r : Result MergeState E) (level : X → PlainLevel) (refs : List X) (s : SetLevels) (from : PlainKey) → map level refs ≡ newest_first s
    → IfOk r (λ m. m ≡ merge_state (λ x. (level x).items) (λ x. (level x).lacks) refs from None) → IfOk r (λ m. m ≡ merge_over s (begins from))
merged_ok (Err e) level refs s from h k = tt
merged_ok (Ok m) level refs s from h k = k ∙ merged_state level refs s from h

module _ {X : Type 0} (f : X → PlainLevel) (bs os as_ : List X) where
  abbrev pub plain_levels : SetLevels
  plain_levels = record { batches = map f bs; objects = map f os; allocs = map f as_ }

  pub upper_is : (n : ℕ) (bs' os' as' : List X) → bs' ≡ bs → os' ≡ newest n os → as' ≡ newest n as_
      → record { batches = map f bs'; objects = map f os'; allocs = map f as' } ≡ upper_levels n plain_levels
  upper_is n bs' os' as' b o a = λ i. record {
    batches = map f (b i);
    objects = (ap (map f) o ∙ sym (newest_map f n os)) i;
    allocs = (ap (map f) a ∙ sym (newest_map f n as_)) i;
  }

  put_over : (n : ℕ) (xs xs' new : List X) → xs' ≡ below_newest n xs ++ new → map f xs' ≡ below_newest n (map f xs) ++ map f new
  put_over n xs xs' new e = ap (map f) e ∙ map-append f (below_newest n xs) new ∙ ap (λ l. l ++ map f new) (sym (below_newest_map f n xs))

  pub install_is : (below n : ℕ) (bs' os' as' objects allocs : List X) → bs' ≡ drop below bs → os' ≡ below_newest n os ++ objects → as' ≡ below_newest n as_ ++ allocs
      → record { batches = map f bs'; objects = map f os'; allocs = map f as' } ≡ installed_levels plain_levels below n (map f objects) (map f allocs)
  install_is below n bs' os' as' objects allocs b o a = λ i. record {
    batches = (ap (map f) b ∙ sym (drop-map f below bs)) i;
    objects = put_over n os os' objects o i;
    allocs = put_over n as_ as' allocs a i;
  }

  pub tidied_is : (below : ℕ) (bs' : List X) (one : X) (items : List PlainItem) (r new ro ra : ℕ) → bs' ≡ one ∷ drop below bs → f one ≡ batch_level items → new ≡ r
      → record {
        levels = record { batches = map f bs'; objects = map f os; allocs = map f as_ };
        room = record { batches = new; objects = ro; allocs = ra };
      } ≡ tidied (record { levels = plain_levels; room = record { batches = r; objects = ro; allocs = ra } }) below items
  tidied_is below bs' one items r new ro ra b e k = λ i. record {
    levels = record {
      batches = (ap (map f) b ∙ ap (λ l. l ∷ map f (drop below bs)) e ∙ ap (λ l. batch_level items ∷ l) (sym (drop-map f below bs))) i;
      objects = map f os;
      allocs = map f as_;
    };
    room = record { batches = k i; objects = ro; allocs = ra };
  }
