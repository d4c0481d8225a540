-- Runs of blocks: their parts, their one form, and the blocks of the disk that they depend on.
use Rattle.std.proofs.Common.{◌≡◌, ℕ, suc, ◌+◌, ◌^◌, ◌<◌, ◌≤◌, ◌⊎◌, inl, inr, List, [], ◌∷◌, ◌++◌, length, refl, sym, ap, subst, ◌∙◌, arith}
use Rattle.std.proofs.lemmas.Bool.{cases_lt}
use Rattle.fx_jblock.specs.declared.Start.{Start}
use Rattle.fx_journal.specs.declared.stream.StreamBlock.{StreamBlock}
use Rattle.fx_journal.specs.Stream.{place_of, bytes_for, place_after, StandsAs, StandsAt, IsRun, IsStream, IsSeries, MayFollow, SameRing}
use Rattle.fx_journal.proofs.Standing.{one_block, may_follow}

pub run_cut : (contents : List (List ℕ)) (ring generation : ℕ) (start next : Start) (front back : List StreamBlock) → IsRun contents ring generation start (front ++ back) next
    → (place : Start) × IsRun contents ring generation start front place × IsRun contents ring generation place back next
run_cut contents ring generation start next [] back run = (start, refl, run)
run_cut contents ring generation start next (b ∷ bs) back run =
    let rest = run_cut contents ring generation (place_after start b) next bs back run.1 in
    (rest.0, (run.0, rest.1), rest.2)

pub run_joined : (contents : List (List ℕ)) (ring generation : ℕ) (start place next : Start) (front back : List StreamBlock) → IsRun contents ring generation start front place
    → IsRun contents ring generation place back next → IsRun contents ring generation start (front ++ back) next
run_joined contents ring generation start place next [] back run more =
    subst (λ (p : Start). IsRun contents ring generation p back next) run more
run_joined contents ring generation start place next (b ∷ bs) back run more =
    (run.0, run_joined contents ring generation (place_after start b) place next bs back run.1 more)

pub run_more : (contents : List (List ℕ)) (ring generation : ℕ) (start place : Start) (blocks : List StreamBlock) (block : StreamBlock) → IsRun contents ring generation start blocks place
    → StandsAt contents ring generation place block → IsRun contents ring generation start (blocks ++ block ∷ []) (place_after place block)
run_more contents ring generation start place blocks block run stands =
    run_joined contents ring generation start place (place_after place block) blocks (block ∷ []) run (stands, refl)

pub run_next : (contents : List (List ℕ)) (ring generation : ℕ) (start next : Start) (blocks : List StreamBlock) → IsRun contents ring generation start blocks next
    → next.sequence ≡ start.sequence + length blocks
run_next contents ring generation start next [] run = omega (arith, ap (λ (p : Start). p.sequence) run)
run_next contents ring generation start next (b ∷ bs) run = omega (arith, run_next contents ring generation (place_after start b) next bs run.1)

pub run_series : (contents : List (List ℕ)) (ring generation : ℕ) (start next : Start) (blocks : List StreamBlock) → IsRun contents ring generation start blocks next
    → IsSeries generation start blocks next
run_series contents ring generation start next [] run = run
run_series contents ring generation start next (b ∷ bs) run =
    (may_follow _ generation start b run.0, run_series contents ring generation (place_after start b) next bs run.1)

pub series_more : (generation : ℕ) (start place : Start) (blocks : List StreamBlock) (block : StreamBlock) → IsSeries generation start blocks place → MayFollow generation place block
    → IsSeries generation start (blocks ++ block ∷ []) (place_after place block)
series_more generation start place [] block run may =
    (subst (λ (p : Start). MayFollow generation p block) run may, ap (λ (p : Start). place_after p block) run)
series_more generation start place (b ∷ bs) block run may =
    (run.0, series_more generation (place_after start b) place bs block run.1 may)

-- one run of each length
pub one_run : (contents : List (List ℕ)) (ring generation : ℕ) (start p q : Start) (xs ys : List StreamBlock) → generation < 2 ^ 64 → start.sequence + length xs ≤ 2 ^ 64
    → length xs ≡ length ys → IsRun contents ring generation start xs p → IsRun contents ring generation start ys q → (xs ≡ ys) × (p ≡ q)
one_run contents ring generation start p q [] [] hg hs len run other = (refl, run ∙ sym other)
one_run contents ring generation start p q [] (y ∷ ys) hg hs len run other = absurd (omega (arith, len))
one_run contents ring generation start p q (x ∷ xs) [] hg hs len run other = absurd (omega (arith, len))
one_run contents ring generation start p q (x ∷ xs) (y ∷ ys) hg hs len run other =
    let same : x ≡ y = one_block (bytes_for contents ring start.sequence) generation start x y hg (omega (arith, hs)) run.0 other.0 in
    let there : IsRun contents ring generation (place_after start x) ys q = subst (λ (b : StreamBlock). IsRun contents ring generation (place_after start b) ys q) (sym same) other.1 in
    let rest = one_run contents ring generation (place_after start x) p q xs ys hg (omega (arith, hs)) (omega (arith, len)) run.1 there in
    (ap (λ (b : StreamBlock). b ∷ xs) same ∙ ap (λ (bs : List StreamBlock). y ∷ bs) rest.0, rest.1)

pub one_stream : (contents : List (List ℕ)) (ring generation : ℕ) (start p q : Start) (xs ys : List StreamBlock) → generation < 2 ^ 64 → start.sequence + ring ≤ 2 ^ 64
    → IsStream contents ring generation start xs p → IsStream contents ring generation start ys q → (xs ≡ ys) × (p ≡ q)
one_stream contents ring generation start p q xs ys hg hs a b =
    let more : length ys ≤ length xs = a.longest ys q b.run b.few in
    let less : length xs ≤ length ys = b.longest xs p a.run a.few in
    one_run contents ring generation start p q xs ys hg (omega (arith, a.few)) (omega arith) a.run b.run

-- where a longer run begins at the same start, a block continues the shorter one
run_goes_on : (contents : List (List ℕ)) (ring generation : ℕ) (start next place : Start) (blocks others : List StreamBlock) → generation < 2 ^ 64 → start.sequence + length others ≤ 2 ^ 64
    → IsRun contents ring generation start blocks next → IsRun contents ring generation start others place → length blocks < length others
    → (block : StreamBlock) × StandsAt contents ring generation next block
run_goes_on contents ring generation start next place [] [] hg hs run other lt = absurd (omega (arith, lt))
run_goes_on contents ring generation start next place [] (o ∷ os) hg hs run other lt =
    (o, subst (λ (p : Start). StandsAt contents ring generation p o) (sym run) other.0)
run_goes_on contents ring generation start next place (b ∷ bs) [] hg hs run other lt = absurd (omega (arith, lt))
run_goes_on contents ring generation start next place (b ∷ bs) (o ∷ os) hg hs run other lt =
    let same : b ≡ o = one_block (bytes_for contents ring start.sequence) generation start b o hg (omega (arith, hs)) run.0 other.0 in
    let there : IsRun contents ring generation (place_after start b) os place = subst (λ (x : StreamBlock). IsRun contents ring generation (place_after start x) os place) (sym same) other.1 in
    run_goes_on contents ring generation (place_after start b) next place bs os hg (omega (arith, hs)) run.1 there (omega (arith, lt))

pub ended_run : (contents : List (List ℕ)) (ring generation : ℕ) (start next : Start) (blocks : List StreamBlock) → generation < 2 ^ 64 → start.sequence + ring ≤ 2 ^ 64
    → IsRun contents ring generation start blocks next → length blocks ≤ ring → (length blocks ≡ ring) ⊎ ((block : StreamBlock) → StandsAt contents ring generation next block → ⊥)
    → IsStream contents ring generation start blocks next
ended_run contents ring generation start next blocks hg hs run few ended = record {
  run = run;
  few = few;
  longest = λ others place other most.
      elim ended [
        | inl full ↦ omega (arith, full, most)
        | inr last ↦ (elim (cases_lt (length blocks) (length others)) [
          | inl lt ↦ (let on = run_goes_on contents ring generation start next place blocks others hg (omega (arith, most)) run other lt in absurd (last on.0 on.1))
          | inr le ↦ le
        ])
      ];
}

pub same_run : (contents others : List (List ℕ)) (ring generation : ℕ) (start next : Start) (blocks : List StreamBlock)
    → ((k : ℕ) → k < length blocks → bytes_for contents ring (start.sequence + k) ≡ bytes_for others ring (start.sequence + k)) → IsRun contents ring generation start blocks next
    → IsRun others ring generation start blocks next
same_run contents others ring generation start next [] same run = run
same_run contents others ring generation start next (b ∷ bs) same run =
    let At : ℕ → Type 0 = λ n. bytes_for contents ring n ≡ bytes_for others ring n in
    let first : start.sequence + 0 ≡ start.sequence = omega arith in
    let here : bytes_for contents ring start.sequence ≡ bytes_for others ring start.sequence = subst At first (same 0 (omega arith)) in (
      subst (λ (bytes : List ℕ). StandsAs bytes generation start b) here run.0,
      same_run contents others ring generation (place_after start b) next bs (λ k lt. (let along : start.sequence + suc k ≡ start.sequence + 1 + k = omega arith in subst At along (same (suc k) (omega (arith, lt))))) run.1,
    )

bytes_in_ring : (contents others : List (List ℕ)) (ring n : ℕ) → 1 ≤ ring → SameRing ring contents others → bytes_for contents ring n ≡ bytes_for others ring n
bytes_in_ring contents others ring n filled same = same (place_of ring n) (omega arith) (omega arith)

pub same_stream : (contents others : List (List ℕ)) (ring generation : ℕ) (start next : Start) (blocks : List StreamBlock) → 1 ≤ ring → SameRing ring contents others
    → IsStream contents ring generation start blocks next → IsStream others ring generation start blocks next
same_stream contents others ring generation start next blocks filled same h = record {
  run = same_run contents others ring generation start next blocks (λ k lt. bytes_in_ring contents others ring (start.sequence + k) filled same) h.run;
  few = h.few;
  longest = λ more place run few.
      h.longest more place (same_run others contents ring generation start place more (λ k lt. sym (bytes_in_ring contents others ring (start.sequence + k) filled same)) run) few;
}
