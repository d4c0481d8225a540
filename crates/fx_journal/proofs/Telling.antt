-- The run so far, of what the disk tells.
use Rattle.std.proofs.Common.{◌≡◌, ℕ, ◌+◌, ◌^◌, ◌<◌, ◌≤◌, inl, inr, List, [], ◌∷◌, ◌++◌, length, sym, ap, subst, ◌∙◌, arith, length-append}
use Rattle.std.specs.Prelude.{Option, Some, None, slice_index_or}
use Rattle.std.specs.Option.{IfSome}
use Rattle.fx_disk.specs.Record.{DiskRecord}
use Rattle.fx_jblock.specs.declared.Start.{Start}
use Rattle.fx_journal.specs.declared.stream.StreamBlock.{StreamBlock}
use Rattle.fx_journal.specs.Stream.{place_of, place_after, StandsAs, IsRun, IsStream, IsSeries}
use Rattle.fx_journal.proofs.Runs.{run_more, series_more, ended_run}
use Rattle.fx_journal.proofs.Standing.{may_follow}

abbrev pub RunTold : Option DiskRecord → ℕ → ℕ → Start → List StreamBlock → Start → Type 0
RunTold told ring generation start blocks next = IfSome told (λ r. IsRun r.contents ring generation start blocks next)

abbrev pub ReadTold : Option DiskRecord → ℕ → List ℕ → Type 0
ReadTold told at bytes = IfSome told (λ r. bytes ≡ slice_index_or r.contents at [])

-- one more block was read and stands there
pub told_more : (told : Option DiskRecord) (ring generation at : ℕ) (start place : Start) (blocks : List StreamBlock) (bytes : List ℕ) (block : StreamBlock)
    → at ≡ place_of ring place.sequence → RunTold told ring generation start blocks place → ReadTold told at bytes → StandsAs bytes generation place block
    → RunTold told ring generation start (blocks ++ block ∷ []) (place_after place block)
told_more None ring generation at start place blocks bytes block e run read stands = tt
told_more (Some r) ring generation at start place blocks bytes block e run read stands =
    let there : bytes ≡ slice_index_or r.contents (place_of ring place.sequence) [] = read ∙ ap (λ (n : ℕ). slice_index_or r.contents n []) e in
    run_more r.contents ring generation start place blocks block run (subst (λ (b : List ℕ). StandsAs b generation place block) there stands)

-- One more block was taken: it stands at the place, and the list and the place are the ones after it.
pub record Taken (bytes : List ℕ) (generation : ℕ) (place after : Start) (block : StreamBlock) (before now : List StreamBlock) : Type 0 where
  pub stands : StandsAs bytes generation place block
  pub moved : after ≡ place_after place block
  pub kept : now ≡ before ++ block ∷ []

pub taken_run : (told told_now : Option DiskRecord) (ring generation at : ℕ) (start place after : Start) (before now : List StreamBlock) (bytes : List ℕ) (block : StreamBlock)
    → Taken bytes generation place after block before now → told_now ≡ told → at ≡ place_of ring place.sequence → RunTold told ring generation start before place → ReadTold told at bytes
    → RunTold told_now ring generation start now after
taken_run told told_now ring generation at start place after before now bytes block t same e run read =
    let more : RunTold told ring generation start (before ++ block ∷ []) (place_after place block) = told_more told ring generation at start place before bytes block e run read t.stands in
    let listed : RunTold told ring generation start now (place_after place block) =
    subst (λ (l : List StreamBlock). RunTold told ring generation start l (place_after place block)) (sym t.kept) more in
    let placed : RunTold told ring generation start now after = subst (λ (p : Start). RunTold told ring generation start now p) (sym t.moved) listed in
    subst (λ (o : Option DiskRecord). RunTold o ring generation start now after) (sym same) placed

pub taken_series : (generation : ℕ) (start place after : Start) (before now : List StreamBlock) (bytes : List ℕ) (block : StreamBlock) → Taken bytes generation place after block before now
    → IsSeries generation start before place → IsSeries generation start now after
taken_series generation start place after before now bytes block t series =
    let more : IsSeries generation start (before ++ block ∷ []) (place_after place block) = series_more generation start place before block series (may_follow bytes generation place block t.stands) in
    let listed : IsSeries generation start now (place_after place block) = subst (λ (l : List StreamBlock). IsSeries generation start l (place_after place block)) (sym t.kept) more in
    subst (λ (p : Start). IsSeries generation start now p) (sym t.moved) listed

pub taken_length : (generation : ℕ) (place after : Start) (before now : List StreamBlock) (bytes : List ℕ) (block : StreamBlock) → Taken bytes generation place after block before now
    → length now ≡ length before + 1
taken_length generation place after before now bytes block t = omega (arith, ap length t.kept, length-append before (block ∷ []))

pub taken_sequence : (generation : ℕ) (place after : Start) (before now : List StreamBlock) (bytes : List ℕ) (block : StreamBlock) → Taken bytes generation place after block before now
    → after.sequence ≡ place.sequence + 1
taken_sequence generation place after before now bytes block t = ap (λ (p : Start). p.sequence) t.moved

-- the run has the ring's length
pub told_full : (told : Option DiskRecord) (ring generation : ℕ) (start next : Start) (blocks : List StreamBlock) → generation < 2 ^ 64 → start.sequence + ring ≤ 2 ^ 64
    → length blocks ≡ ring → RunTold told ring generation start blocks next → IfSome told (λ r. IsStream r.contents ring generation start blocks next)
told_full None ring generation start next blocks hg hs full run = tt
told_full (Some r) ring generation start next blocks hg hs full run =
    ended_run r.contents ring generation start next blocks hg hs run (omega (arith, full)) (inl full)

-- no block stands at the next place
pub told_end : (told : Option DiskRecord) (ring generation at : ℕ) (start next : Start) (blocks : List StreamBlock) (bytes : List ℕ) → generation < 2 ^ 64 → start.sequence + ring ≤ 2 ^ 64
    → length blocks ≤ ring → at ≡ place_of ring next.sequence → RunTold told ring generation start blocks next → ReadTold told at bytes
    → ((block : StreamBlock) → StandsAs bytes generation next block → ⊥) → IfSome told (λ r. IsStream r.contents ring generation start blocks next)
told_end None ring generation at start next blocks bytes hg hs few e run read none = tt
told_end (Some r) ring generation at start next blocks bytes hg hs few e run read none =
    let there : bytes ≡ slice_index_or r.contents (place_of ring next.sequence) [] = read ∙ ap (λ (n : ℕ). slice_index_or r.contents n []) e in
    ended_run r.contents ring generation start next blocks hg hs run few
    (inr (λ block stands. none block (subst (λ (b : List ℕ). StandsAs b generation next block) (sym there) stands)))
