-- The parts of an allocator fit one another after a change of layers, and after a pin ended.
use Rattle.std.proofs.Common.{◌≡◌, ℕ, ◌+◌, ◌-◌, ◌<◌, ◌≤◌, zero, suc, ◌==◌, Bool, true, false, cond, ◌||◌, List, [], ◌∷◌, length, get_or, map, count_by, All, Option, None, refl, sym, ◌∙◌, ap, subst, arith, inl, inr}
use Rattle.std.proofs.lemmas.Bool.{true≢false, cases_lt}
use Rattle.std.proofs.Math.ListN.{get_or-eq_default}
use Rattle.fx_alloc.specs.declared.uses.Use.{Use}
use Rattle.fx_alloc.specs.declared.uses.Use.TheVariants.{System, Free, Drawn, Live, Freed, Layer, Laid, Pinned}
use Rattle.fx_alloc.specs.declared.uses.Waiting.{Waiting}
use Rattle.fx_alloc.specs.declared.holders.Holder.{Holder}
use Rattle.fx_alloc.specs.declared.chain.Chain.{Chain}
use Rattle.fx_alloc.specs.declared.pins.Kept.{Kept}
use Rattle.fx_alloc.specs.Uses.{use_at, is_system, is_free, is_drawn_by, is_live, is_freed, is_layer, is_laid, is_pinned, put_all, blocks_from, AreUsed}
use Rattle.fx_alloc.specs.Space.{holder_at}
use Rattle.fx_alloc.specs.Pins.{PinTable, is_among, is_kept, kept_blocks}
use Rattle.fx_alloc.specs.Layers.{switched_use, unpinned_use, pinned_use, freed_use, layer_use, change_all, is_held, FitPins, ChainsUp}
use Rattle.fx_alloc.specs.Inside.{waiting_blocks, IsSpace}
use Rattle.fx_alloc.proofs.UseLists.{AreUsed-others, AreUsed-zero, length-put_all, count-put_all, length-blocks_from}
use Rattle.fx_alloc.proofs.Changes.{count-change_all, count-either, count-rises, at-map, length-change_all, change_all-at, AreUsed-each, put_all-map, eqb_same, eqb_tells}

-- ---- one use before and after

abbrev pub unlayered : Use → Use
unlayered Layer = Free
unlayered u = u

abbrev pub relaid : Use → Use
relaid Laid = Layer
relaid u = u

unlayered-others : (u : Use) → is_layer u ≡ false → unlayered u ≡ u
unlayered-others System e = refl
unlayered-others Free e = refl
unlayered-others (Drawn s) e = refl
unlayered-others Live e = refl
unlayered-others Freed e = refl
unlayered-others Layer e = absurd (true≢false e)
unlayered-others Laid e = refl
unlayered-others Pinned e = refl

relaid-others : (u : Use) → is_laid u ≡ false → relaid u ≡ u
relaid-others System e = refl
relaid-others Free e = refl
relaid-others (Drawn s) e = refl
relaid-others Live e = refl
relaid-others Freed e = refl
relaid-others Layer e = refl
relaid-others Laid e = absurd (true≢false e)
relaid-others Pinned e = refl

-- a test that tells free from no other of these uses is none that the changes alter
pub each_use : (P : Use → Type 0) → P System → P Free → ((s : ℕ) → P (Drawn s)) → P Live → P Freed → P Layer → P Laid → P Pinned → (u : Use) → P u
each_use P a b c d e f g h System = a
each_use P a b c d e f g h Free = b
each_use P a b c d e f g h (Drawn s) = c s
each_use P a b c d e f g h Live = d
each_use P a b c d e f g h Freed = e
each_use P a b c d e f g h Layer = f
each_use P a b c d e f g h Laid = g
each_use P a b c d e f g h Pinned = h

pinned-keeps : (p : Use → Bool) → p Pinned ≡ p Free → (u : Use) → p (pinned_use u) ≡ p u
pinned-keeps p e = each_use (λ u. p (pinned_use u) ≡ p u) refl e (λ s. refl) refl refl refl refl refl

freed-keeps : (p : Use → Bool) → p Free ≡ p Pinned → (u : Use) → p (freed_use u) ≡ p u
freed-keeps p e = each_use (λ u. p (freed_use u) ≡ p u) refl refl (λ s. refl) refl refl refl refl e

layer-keeps : (p : Use → Bool) → p Layer ≡ p Free → (u : Use) → p (layer_use u) ≡ p u
layer-keeps p e = each_use (λ u. p (layer_use u) ≡ p u) refl e (λ s. refl) refl refl refl refl refl

pinned-twice : (u : Use) → pinned_use (pinned_use u) ≡ pinned_use u
pinned-twice = each_use (λ u. pinned_use (pinned_use u) ≡ pinned_use u) refl refl (λ s. refl) refl refl refl refl refl

freed-twice : (u : Use) → freed_use (freed_use u) ≡ freed_use u
freed-twice = each_use (λ u. freed_use (freed_use u) ≡ freed_use u) refl refl (λ s. refl) refl refl refl refl refl

layer-twice : (u : Use) → layer_use (layer_use u) ≡ layer_use u
layer-twice = each_use (λ u. layer_use (layer_use u) ≡ layer_use u) refl refl (λ s. refl) refl refl refl refl refl

free_not_pinned : (u : Use) → is_free u ≡ true → is_pinned u ≡ false
free_not_pinned = each_use (λ u. is_free u ≡ true → is_pinned u ≡ false) (λ e. refl) (λ e. refl) (λ s e. refl) (λ e. refl) (λ e. refl) (λ e. refl) (λ e. refl) (λ e. absurd (true≢false (sym e)))

either-pinned : (bs : List ℕ) (us : List Use) → count_by is_free (change_all pinned_use bs us) + count_by is_pinned (change_all pinned_use bs us) ≡ count_by is_free us + count_by is_pinned us
either-pinned bs us =
    sym (count-either (λ u. is_free u) (λ u. is_pinned u) (change_all pinned_use bs us) free_not_pinned)
    ∙ count-change_all (λ u. is_free u || is_pinned u) pinned_use bs us (pinned-keeps (λ u. is_free u || is_pinned u) refl)
    ∙ count-either (λ u. is_free u) (λ u. is_pinned u) us free_not_pinned

either-freed : (bs : List ℕ) (us : List Use) → count_by is_free (change_all freed_use bs us) + count_by is_pinned (change_all freed_use bs us) ≡ count_by is_free us + count_by is_pinned us
either-freed bs us =
    sym (count-either (λ u. is_free u) (λ u. is_pinned u) (change_all freed_use bs us) free_not_pinned)
    ∙ count-change_all (λ u. is_free u || is_pinned u) freed_use bs us (freed-keeps (λ u. is_free u || is_pinned u) refl)
    ∙ count-either (λ u. is_free u) (λ u. is_pinned u) us free_not_pinned

-- ---- layers are replaced

no_stay : (s : Bool) (u : Use) → (s ≡ true → u ≡ Layer) → (u ≡ Layer → ⊥) → s ≡ false
no_stay true u h n = absurd (n (h refl))
no_stay false u h n = refl

no_keep : (k : Bool) (u : Use) → (k ≡ true → is_held u ≡ true) → is_held u ≡ false → k ≡ false
no_keep true u h n = absurd (true≢false (sym (h refl) ∙ n))
no_keep false u h n = refl

abbrev pub in_turn : Bool → Bool → Use → Use
in_turn s k v = cond k (pinned_use (cond s (layer_use v) v)) (cond s (layer_use v) v)

plain : (s k : Bool) (u : Use) → s ≡ false → k ≡ false → in_turn s k u ≡ u
plain true k u e f = absurd (true≢false e)
plain false true u e f = absurd (true≢false f)
plain false false u e f = refl

pub switched-is : (s k : Bool) (u : Use) → (s ≡ true → u ≡ Layer) → (k ≡ true → is_held u ≡ true) → in_turn s k (relaid (unlayered u)) ≡ switched_use s k u
switched-is s k System h g = plain s k System (no_stay s System h (λ x. cc)) (no_keep k System g refl)
switched-is s k Free h g = plain s k Free (no_stay s Free h (λ x. cc)) (no_keep k Free g refl)
switched-is s k (Drawn w) h g = plain s k (Drawn w) (no_stay s (Drawn w) h (λ x. cc)) (no_keep k (Drawn w) g refl)
switched-is s k Live h g = plain s k Live (no_stay s Live h (λ x. cc)) (no_keep k Live g refl)
switched-is s k Freed h g = plain s k Freed (no_stay s Freed h (λ x. cc)) (no_keep k Freed g refl)
switched-is true true Layer h g = refl
switched-is true false Layer h g = refl
switched-is false true Layer h g = refl
switched-is false false Layer h g = refl
switched-is s k Laid h g = plain s k Layer (no_stay s Laid h (λ x. cc)) (no_keep k Laid g refl)
switched-is true k Pinned h g = absurd (pinned_layer (h refl))
  where
    pinned_layer : Pinned ≡ Layer → ⊥
    pinned_layer x = cc
switched-is false true Pinned h g = refl
switched-is false false Pinned h g = refl

found : (P : ℕ → Type 0) (bs : List ℕ) (b : ℕ) → All P bs → is_among b bs ≡ true → P b
found P [] b a h = absurd (true≢false (sym h))
found P (c ∷ cs) b a h = told (found P cs b (λ k d l. a (suc k) d (omega (arith, l)))) (c == b) refl h
  where
    told : (is_among b cs ≡ true → P b) → (x : Bool) → (c == b) ≡ x → (x || is_among b cs) ≡ true → P b
    told ih true e h = subst P (eqb_tells c b e) (a 0 0 (omega arith))
    told ih false e h = ih h

module _ {uses : List Use} {links : List ℕ} {ring given free live pinned : ℕ} {holders : List Holder} {heads : List ℕ} {layers laid : Chain} {waiting : List Waiting} {aside : Option ℕ}
    (t : PinTable) (stay : List ℕ) (one two three four : List Use) (later : List ℕ) (chain : Chain) (n : ℕ)
    (s : IsSpace uses links ring given free live pinned holders heads layers laid waiting aside) (f : FitPins uses t) (stays : All (λ b. use_at uses b ≡ Layer) stay)
    (e1 : one ≡ put_all Free (blocks_from links layers.head layers.len) uses) (e2 : two ≡ put_all Layer (blocks_from links laid.head laid.len) one)
    (e3 : three ≡ change_all layer_use stay two) (up : ChainsUp two three links later laid chain)
    (e4 : four ≡ change_all pinned_use (kept_blocks t.kept) three) (fewer : count_by is_free four + n ≡ count_by is_free three) where
  layers-len : length (blocks_from links layers.head layers.len) ≡ layers.len
  layers-len = length-blocks_from links layers.head layers.len

  laid-len : length (blocks_from links laid.head laid.len) ≡ laid.len
  laid-len = length-blocks_from links laid.head laid.len

  -- the blocks laid are still that
  laid-one : AreUsed Laid one (blocks_from links laid.head laid.len)
  laid-one = subst (λ (us : List Use). AreUsed Laid us (blocks_from links laid.head laid.len)) (sym e1)
      (AreUsed-others Laid Layer Free uses (blocks_from links layers.head layers.len) (blocks_from links laid.head laid.len) (λ x. cc) s.of_layers s.of_laid)

  count-one : (p : Use → Bool) → p Layer ≡ false → p Free ≡ false → count_by p one ≡ count_by p uses
  count-one p l q = omega (arith, ap (λ (us : List Use). count_by p us) e1, count-put_all p Layer Free (blocks_from links layers.head layers.len) uses false false (λ x. cc) l q s.of_layers)

  count-two : (p : Use → Bool) → p Laid ≡ false → p Layer ≡ false → count_by p two ≡ count_by p one
  count-two p l q = omega (arith, ap (λ (us : List Use). count_by p us) e2, count-put_all p Laid Layer (blocks_from links laid.head laid.len) one false false (λ x. cc) l q laid-one)

  count-three : (p : Use → Bool) → p Layer ≡ p Free → count_by p three ≡ count_by p two
  count-three p q = ap (λ (us : List Use). count_by p us) e3 ∙ count-change_all p layer_use stay two (layer-keeps p q)

  count-four : (p : Use → Bool) → p Pinned ≡ p Free → count_by p four ≡ count_by p three
  count-four p q = ap (λ (us : List Use). count_by p us) e4 ∙ count-change_all p pinned_use (kept_blocks t.kept) three (pinned-keeps p q)

  count-others : (p : Use → Bool) → p Free ≡ false → p Layer ≡ false → p Laid ≡ false → p Pinned ≡ false → count_by p four ≡ count_by p uses
  count-others p a b c d = count-four p (d ∙ sym a) ∙ count-three p (b ∙ sym a) ∙ count-two p c b ∙ count-one p b a

  laid-count : count_by is_laid one ≡ length (blocks_from links laid.head laid.len)
  laid-count = omega (arith, count-one (λ u. is_laid u) refl refl, s.counts.of_laid, laid-len)

  one-is : one ≡ map unlayered uses
  one-is = e1 ∙ put_all-map (λ u. is_layer u) unlayered Layer Free refl refl refl refl unlayered-others (blocks_from links layers.head layers.len) uses (λ x. cc) s.of_layers (omega (arith, s.counts.of_layers, layers-len))

  two-is : two ≡ map relaid one
  two-is = e2 ∙ put_all-map (λ u. is_laid u) relaid Laid Layer refl refl refl refl relaid-others (blocks_from links laid.head laid.len) one (λ x. cc) laid-one laid-count

  at-two : (b : ℕ) → use_at two b ≡ relaid (unlayered (use_at uses b))
  at-two b =
      ap (λ (us : List Use). use_at us b) two-is ∙ at-map relaid one b refl
      ∙ ap (λ (u : Use). relaid u) (ap (λ (us : List Use). use_at us b) one-is ∙ at-map unlayered uses b refl)

  at-three : (b : ℕ) → use_at three b ≡ cond (is_among b stay) (layer_use (use_at two b)) (use_at two b)
  at-three b = ap (λ (us : List Use). use_at us b) e3 ∙ change_all-at layer_use stay two b layer-twice refl

  at-four : (b : ℕ) → use_at four b ≡ cond (is_kept t.kept b) (pinned_use (use_at three b)) (use_at three b)
  at-four b = ap (λ (us : List Use). use_at us b) e4 ∙ change_all-at pinned_use (kept_blocks t.kept) three b pinned-twice refl

  pub switched-uses : (b : ℕ) → use_at four b ≡ switched_use (is_among b stay) (is_kept t.kept b) (use_at uses b)
  switched-uses b =
      at-four b
      ∙ ap (λ (u : Use). cond (is_kept t.kept b) (pinned_use u) u) (at-three b)
      ∙ ap (λ (u : Use). in_turn (is_among b stay) (is_kept t.kept b) u) (at-two b)
      ∙ switched-is (is_among b stay) (is_kept t.kept b) (use_at uses b) (found (λ k. use_at uses k ≡ Layer) stay b stays) (f.held b)

  pub switched-disk : length four ≡ length uses
  switched-disk =
      ap (λ (us : List Use). length us) e4 ∙ length-change_all pinned_use (kept_blocks t.kept) three ∙ up.uses_len
      ∙ ap (λ (us : List Use). length us) e2 ∙ length-put_all Layer (blocks_from links laid.head laid.len) one
      ∙ ap (λ (us : List Use). length us) e1 ∙ length-put_all Free (blocks_from links layers.head layers.len) uses

  free-two : count_by is_free two ≡ free + layers.len
  free-two = omega (
    arith,
    count-two (λ u. is_free u) refl refl,
    ap (λ (us : List Use). count_by is_free us) e1,
    count-put_all (λ u. is_free u) Layer Free (blocks_from links layers.head layers.len) uses false true (λ x. cc) refl refl s.of_layers,
    layers-len,
    s.counts.of_free,
  )

  layer-two : count_by is_layer two ≡ laid.len
  layer-two = omega (
    arith,
    ap (λ (us : List Use). count_by is_layer us) e2,
    count-put_all (λ u. is_layer u) Laid Layer (blocks_from links laid.head laid.len) one false true (λ x. cc) refl refl laid-one,
    ap (λ (us : List Use). count_by is_layer us) e1,
    count-put_all (λ u. is_layer u) Layer Free (blocks_from links layers.head layers.len) uses true false (λ x. cc) refl refl s.of_layers,
    layers-len,
    laid-len,
    s.counts.of_layers,
  )

  laid-two : count_by is_laid two ≡ 0
  laid-two = omega (
    arith,
    ap (λ (us : List Use). count_by is_laid us) e2,
    count-put_all (λ u. is_laid u) Laid Layer (blocks_from links laid.head laid.len) one true false (λ x. cc) refl refl laid-one,
    laid-count,
  )

  pub switched-free : count_by is_free four + n + chain.len ≡ free + layers.len + laid.len
  switched-free = omega (arith, fewer, up.free, free-two)

  -- free blocks are not fewer
  free-more : count_by is_free uses ≤ count_by is_free four
  free-more = count-rises (λ u. is_free u) uses four switched-disk (λ b e. ap (λ (u : Use). is_free u) (switched-uses b) ∙ still (is_among b stay) (is_kept t.kept b) (use_at uses b) e)
    where
      still : (x y : Bool) (u : Use) → is_free u ≡ true → is_free (switched_use x y u) ≡ true
      still x y = each_use (λ u. is_free u ≡ true → is_free (switched_use x y u) ≡ true) (λ e. e) (λ e. e) (λ w e. e) (λ e. e) (λ e. e) (λ e. absurd (true≢false (sym e))) (λ e. absurd (true≢false (sym e))) (λ e. e)

  pinned-more : count_by is_pinned four ≡ pinned + n
  pinned-more = omega (
    arith,
    fewer,
    either-pinned (kept_blocks t.kept) three,
    ap (λ (us : List Use). count_by is_free us) e4,
    ap (λ (us : List Use). count_by is_pinned us) e4,
    count-three (λ u. is_pinned u) refl,
    count-two (λ u. is_pinned u) refl refl,
    count-one (λ u. is_pinned u) refl refl,
    s.counts.of_pinned,
  )

  keeps-four : (u : Use) → pinned_use u ≡ u → (bs : List ℕ) → AreUsed u three bs → AreUsed u four bs
  keeps-four u e bs a = AreUsed-each u u three four bs (λ b q. at-four b ∙ both (is_kept t.kept b) (use_at three b) q) a
    where
      both : (x : Bool) (v : Use) → v ≡ u → cond x (pinned_use v) v ≡ u
      both true v q = ap (λ (w : Use). pinned_use w) q ∙ e
      both false v q = q

  keeps-three : (u : Use) → layer_use u ≡ u → (bs : List ℕ) → AreUsed u two bs → AreUsed u three bs
  keeps-three u e bs a = AreUsed-each u u two three bs (λ b q. at-three b ∙ both (is_among b stay) (use_at two b) q) a
    where
      both : (x : Bool) (v : Use) → v ≡ u → cond x (layer_use v) v ≡ u
      both true v q = ap (λ (w : Use). layer_use w) q ∙ e
      both false v q = q

  keeps-two : (u : Use) → (Layer ≡ u → ⊥) → (Laid ≡ u → ⊥) → (bs : List ℕ) → AreUsed u uses bs → AreUsed u two bs
  keeps-two u l m bs a =
      subst (λ (us : List Use). AreUsed u us bs) (sym e2)
      (AreUsed-others u Laid Layer one (blocks_from links laid.head laid.len) bs m laid-one
      (subst (λ (us : List Use). AreUsed u us bs) (sym e1) (AreUsed-others u Layer Free uses (blocks_from links layers.head layers.len) bs l s.of_layers a)))

  chain-two : AreUsed Layer two (blocks_from links laid.head laid.len)
  chain-two = AreUsed-each Laid Layer one two (blocks_from links laid.head laid.len) (λ b q. ap (λ (us : List Use). use_at us b) two-is ∙ at-map relaid one b refl ∙ ap (λ (u : Use). relaid u) q) laid-one

  pub IsSpace-switched : IsSpace four later ring given (free + layers.len + laid.len - chain.len - n) live (pinned + n) holders heads chain (record { head = 0; len = 0 }) waiting None
  IsSpace-switched = record {
    small = omega (arith, s.small, switched-disk);
    linked = up.links_len ∙ s.linked ∙ sym switched-disk;
    ids = s.ids;
    counts = record {
      of_system = omega (arith, count-others (λ u. is_system u) refl refl refl refl, s.counts.of_system);
      of_free = omega (arith, switched-free);
      of_live = omega (arith, count-others (λ u. is_live u) refl refl refl refl, s.counts.of_live);
      of_freed = omega (arith, count-others (λ u. is_freed u) refl refl refl refl, s.counts.of_freed);
      of_layers = omega (arith, count-four (λ u. is_layer u) refl, up.layers, layer-two);
      of_laid = omega (arith, count-four (λ u. is_laid u) refl, count-three (λ u. is_laid u) refl, laid-two);
      of_pinned = pinned-more;
      of_all = omega (arith, s.counts.of_all, switched-free, switched-disk);
    };
    seats = s.seats;
    of_seats = λ k. record {
      chain = keeps-four (Drawn k) refl (blocks_from later (get_or heads k 0) (holder_at holders k).drawn)
          (up.others (Drawn k) (get_or heads k 0) (holder_at holders k).drawn (λ x. cc) (keeps-two (Drawn k) (λ x. cc) (λ x. cc) (blocks_from links (get_or heads k 0) (holder_at holders k).drawn) (s.of_seats k).chain));
      counted = omega (arith, count-others (is_drawn_by k) refl refl refl refl, (s.of_seats k).counted);
    };
    of_layers = keeps-four Layer refl (blocks_from later chain.head chain.len) (up.chain chain-two);
    of_laid = AreUsed-zero Laid four later 0;
    of_freed = keeps-four Freed refl (waiting_blocks waiting) (keeps-three Freed refl (waiting_blocks waiting) (keeps-two Freed (λ x. cc) (λ x. cc) (waiting_blocks waiting) s.of_freed));
    rising = s.rising;
    few_laid = omega arith;
    fits = omega (arith, s.fits, s.counts.of_free, free-more, switched-free);
  }

-- ---- a pin ends

plain_twice : (k i : Bool) (u : Use) → freed_use u ≡ u → pinned_use u ≡ u → cond k (pinned_use (cond i (freed_use u) u)) (cond i (freed_use u) u) ≡ u
plain_twice true true u e h = ap (λ (v : Use). pinned_use v) e ∙ h
plain_twice true false u e h = h
plain_twice false true u e h = e
plain_twice false false u e h = refl

pub unpinned-use_is : (k i : Bool) (u : Use) → (k ≡ true → i ≡ true) → (i ≡ true → is_held u ≡ true) → (is_pinned u ≡ true → i ≡ true) → cond k (pinned_use (cond i (freed_use u) u)) (cond i (freed_use u) u) ≡ unpinned_use k u
unpinned-use_is k i System a b c = plain_twice k i System refl refl
unpinned-use_is true true Free a b c = absurd (true≢false (sym (b refl)))
unpinned-use_is true false Free a b c = absurd (true≢false (sym (a refl)))
unpinned-use_is false true Free a b c = refl
unpinned-use_is false false Free a b c = refl
unpinned-use_is k i (Drawn w) a b c = plain_twice k i (Drawn w) refl refl
unpinned-use_is k i Live a b c = plain_twice k i Live refl refl
unpinned-use_is k i Freed a b c = plain_twice k i Freed refl refl
unpinned-use_is k i Layer a b c = plain_twice k i Layer refl refl
unpinned-use_is k i Laid a b c = plain_twice k i Laid refl refl
unpinned-use_is true true Pinned a b c = refl
unpinned-use_is true false Pinned a b c = absurd (true≢false (sym (a refl)))
unpinned-use_is false true Pinned a b c = refl
unpinned-use_is false false Pinned a b c = absurd (true≢false (sym (c refl)))

-- where each pinned block is still kept, all stays
pub still_kept : (k : Bool) (u : Use) → (is_pinned u ≡ true → k ≡ true) → u ≡ unpinned_use k u
still_kept k System c = refl
still_kept k Free c = refl
still_kept k (Drawn w) c = refl
still_kept k Live c = refl
still_kept k Freed c = refl
still_kept k Layer c = refl
still_kept k Laid c = refl
still_kept true Pinned c = refl
still_kept false Pinned c = absurd (true≢false (sym (c refl)))

module _ (uses : List Use) (t : PinTable) (left : List Kept) (one two : List Use) (m n : ℕ)
    (f : FitPins uses t) (less : (b : ℕ) → is_kept left b ≡ true → is_kept t.kept b ≡ true)
    (e1 : one ≡ change_all freed_use (kept_blocks t.kept) uses) (e2 : two ≡ change_all pinned_use (kept_blocks left) one)
    (freed : count_by is_pinned one + m ≡ count_by is_pinned uses) (fewer : count_by is_free two + n ≡ count_by is_free one) where
  pub unpinned-uses : (b : ℕ) → use_at two b ≡ unpinned_use (is_kept left b) (use_at uses b)
  unpinned-uses b =
      ap (λ (us : List Use). use_at us b) e2
      ∙ change_all-at pinned_use (kept_blocks left) one b pinned-twice refl
      ∙ ap (λ (u : Use). cond (is_kept left b) (pinned_use u) u) (ap (λ (us : List Use). use_at us b) e1 ∙ change_all-at freed_use (kept_blocks t.kept) uses b freed-twice refl)
      ∙ unpinned-use_is (is_kept left b) (is_kept t.kept b) (use_at uses b) (less b) (f.held b) (f.owned b)

  unpinned-disk : length two ≡ length uses
  unpinned-disk =
      ap (λ (us : List Use). length us) e2 ∙ length-change_all pinned_use (kept_blocks left) one
      ∙ ap (λ (us : List Use). length us) e1 ∙ length-change_all freed_use (kept_blocks t.kept) uses

  free-one : count_by is_free one ≡ count_by is_free uses + m
  free-one = omega (
    arith,
    freed,
    either-freed (kept_blocks t.kept) uses,
    ap (λ (us : List Use). count_by is_free us) e1,
    ap (λ (us : List Use). count_by is_pinned us) e1,
  )

  more-free : count_by is_free uses ≤ count_by is_free two
  more-free = count-rises (λ u. is_free u) uses two unpinned-disk (λ b e. ap (λ (u : Use). is_free u) (unpinned-uses b) ∙ still (is_kept left b) (use_at uses b) e)
    where
      still : (x : Bool) (u : Use) → is_free u ≡ true → is_free (unpinned_use x u) ≡ true
      still x = each_use (λ u. is_free u ≡ true → is_free (unpinned_use x u) ≡ true) (λ e. e) (λ e. e) (λ w e. e) (λ e. e) (λ e. e) (λ e. e) (λ e. e) (λ e. absurd (true≢false (sym e)))

  pub kept-few : n ≤ m
  kept-few = omega (arith, fewer, free-one, more-free)

  pub free-net : count_by is_free two ≡ count_by is_free uses + (m - n)
  free-net = omega (arith, fewer, free-one, more-free)

module _ {uses : List Use} {links : List ℕ} {ring given free live pinned : ℕ} {holders : List Holder} {heads : List ℕ} {layers laid : Chain} {waiting : List Waiting} {aside : Option ℕ}
    (left : List Kept) (two : List Use) (n : ℕ)
    (s : IsSpace uses links ring given free live pinned holders heads layers laid waiting aside) (h : (b : ℕ) → use_at two b ≡ unpinned_use (is_kept left b) (use_at uses b))
    (disk : length two ≡ length uses) (freed : count_by is_free two ≡ count_by is_free uses + n) where
  count-unpinned : (p : Use → Bool) → p Free ≡ p Pinned → count_by p two ≡ count_by p uses
  count-unpinned p q = omega (arith, count-rises p uses two disk (λ b e. each b ∙ e), count-rises p two uses (sym disk) (λ b e. sym (each b) ∙ e))
    where
      same : (x : Bool) (u : Use) → p (unpinned_use x u) ≡ p u
      same x = each_use (λ u. p (unpinned_use x u) ≡ p u) refl refl (λ k. refl) refl refl refl refl (told x)
        where
          told : (x : Bool) → p (unpinned_use x Pinned) ≡ p Pinned
          told true = refl
          told false = q

      each : (b : ℕ) → p (use_at two b) ≡ p (use_at uses b)
      each b = ap p (h b) ∙ same (is_kept left b) (use_at uses b)

  pub pinned-net : count_by is_pinned two + n ≡ pinned
  pinned-net = omega (
    arith,
    freed,
    count-unpinned (λ u. is_free u || is_pinned u) refl,
    count-either (λ u. is_free u) (λ u. is_pinned u) two free_not_pinned,
    count-either (λ u. is_free u) (λ u. is_pinned u) uses free_not_pinned,
    s.counts.of_pinned,
  )

  keeps-unpinned : (u : Use) → ((k : Bool) → unpinned_use k u ≡ u) → (bs : List ℕ) → AreUsed u uses bs → AreUsed u two bs
  keeps-unpinned u e bs a = AreUsed-each u u uses two bs (λ b q. h b ∙ ap (λ (v : Use). unpinned_use (is_kept left b) v) q ∙ e (is_kept left b)) a

  pub IsSpace-unpinned : IsSpace two links ring given (free + n) live (pinned - n) holders heads layers laid waiting aside
  IsSpace-unpinned = record {
    small = omega (arith, s.small, disk);
    linked = s.linked ∙ sym disk;
    ids = s.ids;
    counts = record {
      of_system = omega (arith, count-unpinned (λ u. is_system u) refl, s.counts.of_system);
      of_free = omega (arith, freed, s.counts.of_free);
      of_live = omega (arith, count-unpinned (λ u. is_live u) refl, s.counts.of_live);
      of_freed = omega (arith, count-unpinned (λ u. is_freed u) refl, s.counts.of_freed);
      of_layers = omega (arith, count-unpinned (λ u. is_layer u) refl, s.counts.of_layers);
      of_laid = omega (arith, count-unpinned (λ u. is_laid u) refl, s.counts.of_laid);
      of_pinned = omega (arith, pinned-net);
      of_all = omega (arith, s.counts.of_all, pinned-net, disk);
    };
    seats = s.seats;
    of_seats = λ k. record {
      chain = keeps-unpinned (Drawn k) (λ x. refl) (blocks_from links (get_or heads k 0) (holder_at holders k).drawn) (s.of_seats k).chain;
      counted = omega (arith, count-unpinned (is_drawn_by k) refl, (s.of_seats k).counted);
    };
    of_layers = keeps-unpinned Layer (λ x. refl) (blocks_from links layers.head layers.len) s.of_layers;
    of_laid = keeps-unpinned Laid (λ x. refl) (blocks_from links laid.head laid.len) s.of_laid;
    of_freed = keeps-unpinned Freed (λ x. refl) (waiting_blocks waiting) s.of_freed;
    rising = s.rising;
    few_laid = s.few_laid;
    fits = omega (arith, s.fits);
  }

-- ---- what the steps ask for

pub held-within : (us : List Use) (b : ℕ) → is_held (use_at us b) ≡ true → b < length us
held-within us b h = elim (cases_lt b (length us)) [
  | inl l ↦ l
  | inr g ↦ absurd (true≢false (sym h ∙ ap (λ (u : Use). is_held u) (get_or-eq_default us System {n = b} g)))
]

among-itself : (bs : List ℕ) (k d : ℕ) → k < length bs → is_among (get_or bs k d) bs ≡ true
among-itself [] k d l = absurd (omega (arith, l))
among-itself (b ∷ bs) zero d l = ap (λ (x : Bool). x || is_among b bs) (eqb_same b b refl)
among-itself (b ∷ bs) (suc k) d l = later (b == get_or bs k d) (is_among (get_or bs k d) bs) (among-itself bs k d (omega (arith, l)))
  where
    later : (x y : Bool) → y ≡ true → (x || y) ≡ true
    later true y e = refl
    later false y e = e

pub kept-within : (us : List Use) (t : PinTable) → FitPins us t → All (λ b. b < length us) (kept_blocks t.kept)
kept-within us t f k d l = held-within us (get_or (kept_blocks t.kept) k d) (f.held (get_or (kept_blocks t.kept) k d) (among-itself (kept_blocks t.kept) k d l))

pub left-within : (us : List Use) (t : PinTable) (left : List Kept) → FitPins us t → ((b : ℕ) → is_kept left b ≡ true → is_kept t.kept b ≡ true) → All (λ b. b < length us) (kept_blocks left)
left-within us t left f less k d l =
    held-within us (get_or (kept_blocks left) k d) (f.held (get_or (kept_blocks left) k d) (less (get_or (kept_blocks left) k d) (among-itself (kept_blocks left) k d l)))

pub free-with_laid : {uses : List Use} {links : List ℕ} {ring given free live pinned : ℕ} {holders : List Holder} {heads : List ℕ} {layers laid : Chain} {waiting : List Waiting} {aside : Option ℕ}
    → IsSpace uses links ring given free live pinned holders heads layers laid waiting aside
    → count_by is_free (put_all Layer (blocks_from links laid.head laid.len) (put_all Free (blocks_from links layers.head layers.len) uses)) ≡ free + layers.len
free-with_laid {uses} {links} {layers = layers} {laid = laid} s = omega (
  arith,
  count-put_all (λ u. is_free u) Laid Layer (blocks_from links laid.head laid.len) (put_all Free (blocks_from links layers.head layers.len) uses) false false (λ x. cc) refl refl
      (AreUsed-others Laid Layer Free uses (blocks_from links layers.head layers.len) (blocks_from links laid.head laid.len) (λ x. cc) s.of_layers s.of_laid),
  count-put_all (λ u. is_free u) Layer Free (blocks_from links layers.head layers.len) uses false true (λ x. cc) refl refl s.of_layers,
  length-blocks_from links layers.head layers.len,
  s.counts.of_free,
)
