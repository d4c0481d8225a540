-- The parts of an allocator fit one another after a block was laid, and after blocks were set aside.
use Rattle.std.proofs.Common.{◌≡◌, ℕ, ◌+◌, ◌-◌, ◌<◌, ◌≤◌, true, false, cond, List, [], ◌∷◌, length, get_or, set, map, count_by, Option, Some, None, refl, sym, ◌∙◌, ap, arith, subst, length-set}
use Rattle.std.proofs.Math.Seq.{map-set_same}
use Rattle.std.proofs.lemmas.List.Sums.{sum_by-cons}
use Rattle.fx_alloc.specs.declared.uses.Use.{Use}
use Rattle.fx_alloc.specs.declared.uses.Use.TheVariants.{System, Free, Drawn, Live, Freed, Layer, Laid, Pinned}
use Rattle.fx_alloc.specs.declared.uses.Waiting.{Waiting}
use Rattle.fx_alloc.specs.declared.holders.Holder.{Holder}
use Rattle.fx_alloc.specs.declared.chain.Chain.{Chain}
use Rattle.fx_alloc.specs.Uses.{is_system, is_free, is_drawn_by, is_live, is_freed, is_layer, is_laid, is_pinned, put_all, blocks_from}
use Rattle.fx_alloc.specs.Space.{holder_at, undrawn, left_aside, aside_count, unlaid}
use Rattle.fx_alloc.specs.Inside.{waiting_blocks, IsSpace}
use Rattle.fx_alloc.specs.Uses.{AreUsed}
use Rattle.fx_alloc.proofs.UseLists.{moved, within, AreUsed-kept, AreUsed-links, AreUsed-head, AreUsed-zero, AreUsed-others, AreUsed-first, AreUsed-less, length-put_all, count-put_all, length-blocks_from}

one_less : (aside : Option ℕ) (n : ℕ) → 0 < left_aside aside n → left_aside aside (n + 1) ≡ left_aside aside n - 1
one_less None n l = absurd (omega (arith, l))
one_less (Some m) n l = omega arith

one_more : (aside : Option ℕ) (n : ℕ) → 0 < left_aside aside n → n + 1 ≤ aside_count aside
one_more None n l = absurd (omega (arith, l))
one_more (Some m) n l = omega (arith, l)

pub IsSpace-laid : {uses : List Use} {links : List ℕ} {ring given free live pinned : ℕ} {holders : List Holder} {heads : List ℕ} {layers laid : Chain} {waiting : List Waiting} {aside : Option ℕ}
    → (b : ℕ) → IsSpace uses links ring given free live pinned holders heads layers laid waiting aside
    → 0 < left_aside aside laid.len → get_or uses b System ≡ Free
    → IsSpace (set uses b Laid) (set links b laid.head) ring given (free - 1) live pinned holders heads layers (record { head = b; len = laid.len + 1 }) waiting aside
IsSpace-laid {uses} {links} {ring} {given} {free} {live} {pinned} {holders} {heads} {layers} {laid} {waiting} {aside} b s left e = record {
  small = omega (arith, s.small, length-set uses b Laid);
  linked = length-set links b laid.head ∙ s.linked ∙ sym (length-set uses b Laid);
  ids = s.ids;
  counts = record {
    of_system = omega (arith, moved is_system uses b Free Laid on_disk e, s.counts.of_system);
    of_free = omega (arith, moved is_free uses b Free Laid on_disk e, s.counts.of_free);
    of_live = omega (arith, moved is_live uses b Free Laid on_disk e, s.counts.of_live);
    of_freed = omega (arith, moved is_freed uses b Free Laid on_disk e, s.counts.of_freed);
    of_layers = omega (arith, moved is_layer uses b Free Laid on_disk e, s.counts.of_layers);
    of_laid = omega (arith, moved is_laid uses b Free Laid on_disk e, s.counts.of_laid);
    of_pinned = omega (arith, moved is_pinned uses b Free Laid on_disk e, s.counts.of_pinned);
    of_all = omega (arith, s.counts.of_all, s.counts.of_free, moved is_free uses b Free Laid on_disk e, length-set uses b Laid);
  };
  seats = s.seats;
  of_seats = λ t. record {
    chain = AreUsed-kept (Drawn t) Laid uses b (blocks_from (set links b laid.head) (get_or heads t 0) (holder_at holders t).drawn) (λ x. cc) (AreUsed-links (Drawn t) uses links b laid.head (get_or heads t 0) (holder_at holders t).drawn (λ x. cc) (s.of_seats t).chain);
    counted = omega (arith, moved (is_drawn_by t) uses b Free Laid on_disk e, (s.of_seats t).counted);
  };
  of_layers = AreUsed-kept Layer Laid uses b (blocks_from (set links b laid.head) layers.head layers.len) (λ x. cc) (AreUsed-links Layer uses links b laid.head layers.head layers.len (λ x. cc) s.of_layers);
  of_laid = AreUsed-head Laid uses links b laid.head laid.len on_disk (omega (arith, s.linked, on_disk)) (λ x. cc) s.of_laid;
  of_freed = AreUsed-kept Freed Laid uses b (waiting_blocks waiting) (λ x. cc) s.of_freed;
  rising = s.rising;
  few_laid = one_more aside laid.len left;
  fits = omega (arith, s.fits, s.counts.of_free, moved is_free uses b Free Laid on_disk e, one_less aside laid.len left, left);
}
  where
    on_disk : b < length uses
    on_disk = within uses b Free e (λ x. cc)

-- what is left of the blocks set aside, by the count of the laid ones
pub aside_left : {uses : List Use} {links : List ℕ} {ring given free live pinned : ℕ} {holders : List Holder} {heads : List ℕ} {layers laid : Chain} {waiting : List Waiting} {aside : Option ℕ}
    → IsSpace uses links ring given free live pinned holders heads layers laid waiting aside
    → 0 < left_aside aside (count_by is_laid uses) → 0 < left_aside aside laid.len
aside_left {uses} {links} {ring} {given} {free} {live} {pinned} {holders} {heads} {layers} {laid} {waiting} {aside} s l = subst (λ (n : ℕ). 0 < left_aside aside n) s.counts.of_laid l

-- ---- what was laid is free again

none_laid : (us : List Use) → count_by is_laid us ≡ 0 → map unlaid us ≡ us
none_laid [] e = refl
none_laid (x ∷ xs) e =
    let s : count_by is_laid (x ∷ xs) ≡ cond (is_laid x) 1 0 + count_by is_laid xs = sum_by-cons (λ y. cond (is_laid y) 1 0) x xs in
    ap (λ (y : Use). y ∷ map unlaid xs) (same x (omega (arith, s, e))) ∙ ap (λ (ys : List Use). x ∷ ys) (none_laid xs (omega (arith, s, e)))
  where
    same : (u : Use) → cond {A = ℕ} (is_laid u) 1 0 ≡ 0 → unlaid u ≡ u
    same Laid h = absurd (omega (arith, h))
    same System h = refl
    same Free h = refl
    same (Drawn seat) h = refl
    same Live h = refl
    same Freed h = refl
    same Layer h = refl
    same Pinned h = refl

pub put_all-unlaid : (bs : List ℕ) (us : List Use) → AreUsed Laid us bs → count_by is_laid us ≡ length bs → put_all Free bs us ≡ map unlaid us
unfolding put_all
put_all-unlaid [] us h e = sym (none_laid us e)
put_all-unlaid (b ∷ bs) us h e =
    let first : get_or us b System ≡ Laid = AreUsed-first Laid us b bs h in
    let f : count_by is_laid (set us b Free) + 1 ≡ count_by is_laid us + 0 = moved is_laid us b Laid Free (within us b Laid first (λ x. cc)) first in
    put_all-unlaid bs (set us b Free) (AreUsed-less Laid Free us b bs h) (omega (arith, f, e))
    ∙ map-set_same (λ u. unlaid u) us b Free System (sym (ap (λ (u : Use). unlaid u) first))

put_unlaid : {uses : List Use} {links : List ℕ} {ring given free live pinned : ℕ} {holders : List Holder} {heads : List ℕ} {layers laid : Chain} {waiting : List Waiting} {aside : Option ℕ}
    → (n : ℕ) → IsSpace uses links ring given free live pinned holders heads layers laid waiting aside
    → undrawn holders + n ≤ free + laid.len
    → IsSpace (put_all Free (blocks_from links laid.head laid.len) uses) links ring given (free + laid.len) live pinned holders heads layers (record { head = 0; len = 0 }) waiting (Some n)
put_unlaid {uses} {links} {ring} {given} {free} {live} {pinned} {holders} {heads} {layers} {laid} {waiting} {aside} n s fits = record {
  small = omega (arith, s.small, length-put_all Free (blocks_from links laid.head laid.len) uses);
  linked = s.linked ∙ sym (length-put_all Free (blocks_from links laid.head laid.len) uses);
  ids = s.ids;
  counts = record {
    of_system = omega (arith, count-put_all is_system Laid Free (blocks_from links laid.head laid.len) uses false false (λ x. cc) refl refl s.of_laid, s.counts.of_system);
    of_free = omega (arith, len, count-put_all is_free Laid Free (blocks_from links laid.head laid.len) uses false true (λ x. cc) refl refl s.of_laid, s.counts.of_free);
    of_live = omega (arith, count-put_all is_live Laid Free (blocks_from links laid.head laid.len) uses false false (λ x. cc) refl refl s.of_laid, s.counts.of_live);
    of_freed = omega (arith, count-put_all is_freed Laid Free (blocks_from links laid.head laid.len) uses false false (λ x. cc) refl refl s.of_laid, s.counts.of_freed);
    of_layers = omega (arith, count-put_all is_layer Laid Free (blocks_from links laid.head laid.len) uses false false (λ x. cc) refl refl s.of_laid, s.counts.of_layers);
    of_laid = omega (arith, len, count-put_all is_laid Laid Free (blocks_from links laid.head laid.len) uses true false (λ x. cc) refl refl s.of_laid, s.counts.of_laid);
    of_pinned = omega (arith, count-put_all is_pinned Laid Free (blocks_from links laid.head laid.len) uses false false (λ x. cc) refl refl s.of_laid, s.counts.of_pinned);
    of_all = omega (arith, s.counts.of_all, length-put_all Free (blocks_from links laid.head laid.len) uses);
  };
  seats = s.seats;
  of_seats = λ t. record {
    chain = AreUsed-others (Drawn t) Laid Free uses (blocks_from links laid.head laid.len) (blocks_from links (get_or heads t 0) (holder_at holders t).drawn) (λ x. cc) s.of_laid (s.of_seats t).chain;
    counted = omega (arith, count-put_all (is_drawn_by t) Laid Free (blocks_from links laid.head laid.len) uses false false (λ x. cc) refl refl s.of_laid, (s.of_seats t).counted);
  };
  of_layers = AreUsed-others Layer Laid Free uses (blocks_from links laid.head laid.len) (blocks_from links layers.head layers.len) (λ x. cc) s.of_laid s.of_layers;
  of_laid = AreUsed-zero Laid (put_all Free (blocks_from links laid.head laid.len) uses) links 0;
  of_freed = AreUsed-others Freed Laid Free uses (blocks_from links laid.head laid.len) (waiting_blocks waiting) (λ x. cc) s.of_laid s.of_freed;
  rising = s.rising;
  few_laid = omega arith;
  fits = omega (arith, fits);
}
  where
    len : length (blocks_from links laid.head laid.len) ≡ laid.len
    len = length-blocks_from links laid.head laid.len

pub IsSpace-set_aside : {uses : List Use} {links : List ℕ} {ring given free live pinned : ℕ} {holders : List Holder} {heads : List ℕ} {layers laid : Chain} {waiting : List Waiting} {aside : Option ℕ}
    → (n : ℕ) → IsSpace uses links ring given free live pinned holders heads layers laid waiting aside
    → undrawn holders + n ≤ free + laid.len
    → IsSpace (map unlaid uses) links ring given (free + laid.len) live pinned holders heads layers (record { head = 0; len = 0 }) waiting (Some n)
IsSpace-set_aside {uses} {links} {ring} {given} {free} {live} {pinned} {holders} {heads} {layers} {laid} {waiting} {aside} n s fits =
    subst (λ (us : List Use). IsSpace us links ring given (free + laid.len) live pinned holders heads layers (record { head = 0; len = 0 }) waiting (Some n))
    (put_all-unlaid (blocks_from links laid.head laid.len) uses s.of_laid (s.counts.of_laid ∙ sym (length-blocks_from links laid.head laid.len)))
    (put_unlaid n s fits)
