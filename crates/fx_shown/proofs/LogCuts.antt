-- Which transactions each image left now shows: a cut of those of the state.
use Rattle.std.proofs.Common.{◌≡◌, ℕ, zero, suc, ◌+◌, ◌≤◌, ◌<◌, ◌⊎◌, inl, inr, List, [], ◌∷◌, ◌++◌, length, take, drop, map, refl, sym, subst, ◌∙◌, ap, arith, append_assoc, length-append, length-drop}
use Rattle.std.specs.Prelude.{Option, Some, None, IfSome}
use Rattle.std.specs.List.{concat}
use Rattle.std.proofs.Math.Path.{fun_ext}
use Rattle.std.proofs.lemmas.List.{length-take, take-append-drop}
use Rattle.std.proofs.lemmas.List.Elements.{All-nil, All-cons}
use Rattle.fx_disk.specs.Began.{BeganAs}
use Rattle.fx_disk.specs.Record.{DiskRecord, Cell, LeftNow, cell_after, cell_now}
use Rattle.fx_disk.specs.Seen.{DiskSeen}
use Rattle.fx_item.specs.Item.{PlainItem}
use Rattle.fx_contents.specs.Points.{Points}
use Rattle.fx_record.specs.Commits.{AreBefore, blocks_of, numbered}
use Rattle.fx_record.specs.Txns.{IsTxns}
use Rattle.fx_record.proofs.Commits.{length-numbered, numbered-append}
use Rattle.fx_super.specs.Super.{Fields}
use Rattle.fx_jblock.specs.declared.Start.{Start}
use Rattle.fx_journal.specs.declared.stream.StreamBlock.{StreamBlock}
use Rattle.fx_journal.specs.Ring.{Queued, texts}
use Rattle.fx_journal.specs.Stream.{IsSeries, place_after}
use Rattle.fx_log.specs.Chance.{NotByChance}
use Rattle.fx_log.specs.Chosen.{start_of}
use Rattle.fx_log.specs.Ring.{as_stream}
use Rattle.fx_supers.specs.Supers.{Origin, SuperCut}
use Rattle.fx_supers.specs.Shown.{ShowsCut, ShowsLog, ShowsRun}
use Rattle.fx_supers.specs.SessionLog.{HoldsLog, IsSessionLog, KeepsLog, SessionLog, epoch_of, first_in, read_in}
use Rattle.fx_supers.proofs.LogShown.{shows-log}
use Rattle.fx_logcuts.specs.Cuts.{ShowsCommits, pieces_in}
use Rattle.fx_logcuts.proofs.CutParts.{text_in, texts-parts, texts-short}
use Rattle.fx_logcuts.proofs.CutKeeps.{shows-commits}
use Rattle.fx_kept.specs.Chance.{HasMeantForms}
use Rattle.fx_uses.specs.Uses.{AreUses}
use Rattle.fx_cuts.specs.Joined.{JoinedState, points_at}
use Rattle.fx_cuts.specs.Images.{IsShownCut, ShowsCuts}
use Rattle.fx_shown.specs.Forms.{log_forms}
use Rattle.fx_shown.specs.Meanings.{LayerReading, ShowsTxns, log_meanings}
use Rattle.fx_shown.specs.LogTxns.{LogTxns, HasLogTxns, IsLogState, IsSuperIn, HasMountBase, HasLaterBase, HaveBases, HaveNoLowerBase, LayersSayNow, AreSoundNow, last_kept}
use Rattle.fx_shown.proofs.ChanceForms.{chance-from_forms}
use Rattle.fx_shown.proofs.StreamLeft.{Lists, Txns, Leaves, stream-leaves}

-- ---- blocks and their texts

texts-are_joined : (blocks : List Queued) → texts blocks ≡ concat (map text_in blocks)
texts-are_joined [] = refl
texts-are_joined (q ∷ qs) = ap (λ (w : List ℕ). q.text ++ w) (texts-are_joined qs)

pieces-of : (epoch : ℕ) (blocks : List Queued) → pieces_in (as_stream epoch blocks) ≡ blocks_of epoch (map text_in blocks)
pieces-of epoch [] = refl
pieces-of epoch (q ∷ qs) = ap (λ (w : List (ℕ × List ℕ)). (epoch, q.text) ∷ w) (pieces-of epoch qs)

pieces-joined : (read : List StreamBlock) (epoch : ℕ) (blocks : List Queued) → pieces_in (read ++ as_stream epoch blocks) ≡ pieces_in read ++ blocks_of epoch (map text_in blocks)
pieces-joined [] epoch blocks = pieces-of epoch blocks
pieces-joined (b ∷ bs) epoch blocks = ap (λ (w : List (ℕ × List ℕ)). (b.epoch, b.records) ∷ w) (pieces-joined bs epoch blocks)

-- what was read at the mount has no later epoch than the generation
series-before : (generation : ℕ) (start next : Start) (read : List StreamBlock) → IsSeries generation start read next → AreBefore (generation + 1) (pieces_in read)
series-before generation start next [] h = All-nil (λ (b : ℕ × List ℕ). b.0 < generation + 1)
series-before generation start next (b ∷ bs) h =
    All-cons (λ (b : ℕ × List ℕ). b.0 < generation + 1) (b.epoch, b.records) (pieces_in bs) (let most = h.0.most in omega (arith, most)) (series-before generation (place_after start b) next bs h.1)

pub take-none : (n : ℕ) → take {A = List PlainItem} n [] ≡ []
take-none zero = refl
take-none (suc n) = refl

-- the commits numbered, in two parts
numbered-parts : (last n : ℕ) (xs : Lists) → n ≤ length xs → numbered last xs ≡ numbered last (take n xs) ++ numbered (last + n) (drop n xs)
numbered-parts last n xs le =
    let long : length (take n xs) ≡ n = omega (arith, length-take n xs, le) in
    ap (numbered last) (sym (take-append-drop n xs)) ∙ numbered-append last (take n xs) (drop n xs)
    ∙ ap (λ (k : ℕ). numbered last (take n xs) ++ numbered (last + k) (drop n xs)) long

-- ---- the stream from the start that the mount found

module _ (l : LayerReading) (log : SessionLog) (t : LogTxns) (is : IsSessionLog log) (has : HasLogTxns log t) where
  abbrev base : ℕ
  base = log.head.super.base

  abbrev last : ℕ
  last = last_kept base t

  abbrev epoch : ℕ
  epoch = epoch_of log.head

  before-epoch : AreBefore epoch (pieces_in log.head.read)
  before-epoch = series-before log.head.super.generation (start_of log.head.super) log.head.place log.head.read is.head.series

  abbrev LeavesOf : List (List ℕ) → Type 0
  LeavesOf ts = Leaves base epoch (pieces_in log.head.read) t has.found before-epoch has.appended.each has.fits ts

  leaves : (k : ℕ) → LeavesOf (map text_in (take k log.tail.blocks))
  leaves k = stream-leaves base epoch (pieces_in log.head.read) t has.found before-epoch has.appended.each has.fits has.opens (map text_in (take k log.tail.blocks)) (texts (drop k log.tail.blocks) ++ log.tail.text)
      (ap (λ (w : List ℕ). w ++ (texts (drop k log.tail.blocks) ++ log.tail.text)) (sym (texts-are_joined (take k log.tail.blocks)))
      ∙ sym (append_assoc (texts (take k log.tail.blocks)) (texts (drop k log.tail.blocks)) log.tail.text)
      ∙ ap (λ (w : List ℕ). w ++ log.tail.text) (sym (texts-parts k log.tail.blocks))
      ∙ has.appended.joined)

  run-first : (image : List (List ℕ)) (cut : SuperCut) → HasMountBase log cut → ShowsCut log image cut → ShowsRun image cut.super.ring epoch cut.super.generation (start_of cut.super) log.head.read log.tail.blocks 0 log.tail.settled
  run-first image cut m c = subst (λ (o : Origin). ShowsRun image cut.super.ring epoch cut.super.generation (start_of cut.super) (read_in log.head o) log.tail.blocks (first_in o) log.tail.settled) m.origin c.run

  -- what an image with the mount's start shows
  shows-first : (image : List (List ℕ)) (cut : SuperCut) (m : HasMountBase log cut) (c : ShowsCut log image cut) (points : Points) → l.LayersSay image cut.super points
      → (txns : Txns) → IsTxns base (pieces_in log.head.read ++ blocks_of epoch (map text_in (take (run-first image cut m c).count log.tail.blocks))) txns → ShowsTxns l image cut.super.base points txns
  shows-first image cut m c points says txns left =
      let run = run-first image cut m c in
      record {
        super = cut.super;
        chosen = c.chosen;
        base_is = refl;
        layers = says;
        stream = log.head.read ++ as_stream epoch (take run.count log.tail.blocks);
        next = run.next;
        stream_is = run.stream;
        txns_are = subst (λ (b : ℕ). IsTxns b (pieces_in (log.head.read ++ as_stream epoch (take run.count log.tail.blocks))) txns) (sym m.base)
            (subst (λ (w : List (ℕ × List ℕ)). IsTxns base w txns) (sym (pieces-joined log.head.read epoch (take run.count log.tail.blocks))) left);
      }

  -- which transactions these are
  pub left-first : (image : List (List ℕ)) (cut : SuperCut) → HasMountBase log cut → ShowsCut log image cut → (points : Points) → l.LayersSay image cut.super points
      → (txns : Txns) × ShowsTxns l image cut.super.base points txns × ((txns ≡ t.found) ⊎ ((more : ℕ) × (txns ≡ t.kept ++ numbered last (take more t.commits))))
  left-first image cut m c points says =
      let run = run-first image cut m c in
      let left = leaves run.count in (
        left.0,
        shows-first image cut m c points says left.0 left.1,
        elim left.2 [
          | inl none ↦ inl none.0
          | inr more ↦ inr (more.0, more.2)
        ],
      )

  -- ---- cuts of the state

  module _ (s : JoinedState) (marks : ℕ) (of : IsLogState s log t marks) (used : AreUses s.blocks) (image : List (List ℕ)) where
    abbrev pub ShowsOne : Fields → Type 0
    ShowsOne super = (txns : Txns) × ShowsTxns l image super.base (points_at s super.base) txns × IsShownCut s super.base (points_at s super.base) txns

    cut-first : (cut : SuperCut) → s.based ≤ cut.super.base → HasMountBase log cut → ShowsCut log image cut → l.LayersSay image cut.super (points_at s cut.super.base) → ShowsOne cut.super
    cut-first cut above m c says =
        let run = run-first image cut m c in
        let stood : List Queued = take run.count log.tail.blocks in
        let left = leaves run.count in
        let long : length (texts (take log.tail.settled log.tail.blocks)) ≤ length (texts stood) = let least = run.least in texts-short log.tail.blocks log.tail.settled run.count (omega (arith, least)) in
        let same : length (texts stood) ≡ length (concat (map text_in stood)) = ap length (texts-are_joined stood) in (
          left.0,
          shows-first image cut m c (points_at s cut.super.base) says left.0 left.1,
          elim left.2 [
            | inl none ↦ (let stand = of.stand in let few = none.1 in absurd (omega (arith, stand, few, long, same)))
            | inr more ↦ (
                let all : s.txns ≡ left.0 ++ numbered (last + more.0) (drop more.0 t.commits) =
                of.txns ∙ ap (λ (w : Txns). t.kept ++ w) (numbered-parts last more.0 t.commits more.1)
                ∙ sym (append_assoc t.kept (numbered last (take more.0 t.commits)) (numbered (last + more.0) (drop more.0 t.commits)))
                ∙ ap (λ (w : Txns). w ++ numbered (last + more.0) (drop more.0 t.commits)) (sym more.2) in
                let reached : marks ≤ more.0 = more.3 marks of.few (let stand = of.stand in omega (arith, stand, long, same)) in
                let sized : length left.0 ≡ length t.kept + more.0 = ap length more.2 ∙ omega (arith, length-append t.kept (numbered last (take more.0 t.commits)), length-numbered last (take more.0 t.commits), length-take more.0 t.commits, more.1) in
                record {
                  earlier = [];
                  later = numbered (last + more.0) (drop more.0 t.commits);
                  joined = all;
                  base_is = omega (arith, m.base, of.base);
                  points_are = λ p. refl;
                  from = above;
                  flushed = omega (arith, m.base, of.base, used.marked, used.firm);
                  reaches = omega (arith, m.base, of.settled, reached, sized);
                })
          ],
        )

    -- the run from a cut
    run-later : (cut : SuperCut) (n : ℕ) → cut.origin ≡ Some n → ShowsCut log image cut → ShowsRun image cut.super.ring epoch cut.super.generation (start_of cut.super) [] log.tail.blocks n log.tail.settled
    run-later cut n e c = subst (λ (o : Origin). ShowsRun image cut.super.ring epoch cut.super.generation (start_of cut.super) (read_in log.head o) log.tail.blocks (first_in o) log.tail.settled) e c.run

    cut-later : (cut : SuperCut) → s.based ≤ cut.super.base → HasLaterBase s log t cut → ShowsCut log image cut → l.LayersSay image cut.super (points_at s cut.super.base) → ShowsOne cut.super
    cut-later cut above h c says =
        let k = h.cut_is in
        let run = run-later cut k.n k.origin c in
        let kept : ShowsCommits (last + k.count) (as_stream epoch (take run.count (drop k.n log.tail.blocks))) t.commits k.count marks =
        shows-commits t.opened last log.tail.blocks log.tail.text t.commits has.appended k.n k.count k.at has.fits epoch run.count log.tail.settled marks run.least of.few of.stand in
        let few : k.count ≤ length t.commits = k.at.within in
        let txns : Txns = numbered (last + k.count) (take kept.more (drop k.count t.commits)) in
        let rest : Txns = numbered (last + k.count + kept.more) (drop kept.more (drop k.count t.commits)) in
        let earlier : Txns = t.kept ++ numbered last (take k.count t.commits) in
        let left : length (drop k.count t.commits) + k.count ≡ length t.commits = omega (arith, length-drop k.count t.commits, few) in
        let within : kept.more ≤ length (drop k.count t.commits) = let most = kept.most in omega (arith, most, left) in
        let all : s.txns ≡ earlier ++ (txns ++ rest) =
        of.txns ∙ ap (λ (w : Txns). t.kept ++ w) (numbered-parts last k.count t.commits few)
        ∙ sym (append_assoc t.kept (numbered last (take k.count t.commits)) (numbered (last + k.count) (drop k.count t.commits)))
        ∙ ap (λ (w : Txns). earlier ++ w) (numbered-parts (last + k.count) kept.more (drop k.count t.commits) within) in
        let before : length earlier ≡ length t.kept + k.count = omega (arith, length-append t.kept (numbered last (take k.count t.commits)), length-numbered last (take k.count t.commits), length-take k.count t.commits, few) in
        let sized : length txns ≡ kept.more = omega (arith, length-numbered (last + k.count) (take kept.more (drop k.count t.commits)), length-take kept.more (drop k.count t.commits), within) in (
          txns,
          record {
            super = cut.super;
            chosen = c.chosen;
            base_is = refl;
            layers = says;
            stream = as_stream epoch (take run.count (drop k.n log.tail.blocks));
            next = run.next;
            stream_is = run.stream;
            txns_are = subst (λ (b : ℕ). IsTxns b (pieces_in (as_stream epoch (take run.count (drop k.n log.tail.blocks)))) txns) (sym k.base) kept.txns;
          },
          record {
            earlier = earlier;
            later = rest;
            joined = all;
            base_is = omega (arith, k.base, of.base, before);
            points_are = λ p. refl;
            from = above;
            flushed = h.flushed;
            reaches = let least = kept.least in omega (arith, k.base, of.settled, least, sized);
          },
        )

    pub cut-either : (cut : SuperCut) → s.based ≤ cut.super.base → HasMountBase log cut ⊎ HasLaterBase s log t cut → ShowsCut log image cut → l.LayersSay image cut.super (points_at s cut.super.base) → ShowsOne cut.super
    cut-either cut above (inl m) c says = cut-first cut above m c says
    cut-either cut above (inr h) c says = cut-later cut above h c says

-- ---- each image left now

pub when-told : (P Q : DiskRecord → Type 0) (told : Option DiskRecord) → ((r : DiskRecord) → P r → Q r) → IfSome told P → IfSome told Q
when-told P Q None f h = tt
when-told P Q (Some r) f h = f r h

-- the superblock that an image has
shown-cut : (log : SessionLog) (image : List (List ℕ)) → ShowsLog log image → (cut : SuperCut) × IsSuperIn log.supers cut × ShowsCut log image cut
shown-cut log image (inl c) = (log.supers.current, inl refl, c)
shown-cut log image (inr c) = (c.0, inr c.1, c.2)

pub shown-now : (before : ℕ → Cell) (log : SessionLog) (is : IsSessionLog log) (r : DiskRecord) → KeepsLog log r → (first : List (List ℕ)) → BeganAs r log.from first → ((b : ℕ) → cell_after r log.from b ≡ before b) → (image : List (List ℕ)) → LeftNow r image
    → HasMeantForms log_forms before (cell_now r) log.head.super.generation image → (cut : SuperCut) × IsSuperIn log.supers cut × ShowsCut log image cut
shown-now before log is r keeps first began same image left formed =
    shown-cut log image (shows-log log is first r (keeps.has first began) image left
    (subst (λ (c : ℕ → Cell). NotByChance c (cell_now r) log.head.super.generation image) (sym (fun_ext same)) (chance-from_forms before (cell_now r) log.head.super.generation image formed)))

abbrev pub ShowsCutsNow : LayerReading → (ℕ → Cell) → JoinedState → SessionLog → DiskRecord → Type 0
ShowsCutsNow l before s log r = (first : List (List ℕ)) → BeganAs r log.from first → ((b : ℕ) → cell_after r log.from b ≡ before b) → LayersSayNow l s log r
    → AreSoundNow (log_meanings l before log.head.super.generation) s r → ShowsCuts (log_meanings l before log.head.super.generation) s r

pub log-shows_cuts : (l : LayerReading) (before : ℕ → Cell) (s : JoinedState) (log : SessionLog) (t : LogTxns) (marks : ℕ) (seen : DiskSeen) → HoldsLog log seen → HasLogTxns log t → IsLogState s log t marks → HaveBases s log t → HaveNoLowerBase s log → AreUses s.blocks → IfSome seen.told (ShowsCutsNow l before s log)
log-shows_cuts l before s log t marks seen h has of bases above used = when-told (KeepsLog log) (ShowsCutsNow l before s log) seen.told now h.told
  where
    now : (r : DiskRecord) → KeepsLog log r → ShowsCutsNow l before s log r
    now r keeps first began same says sound image left formed =
        let c = shown-now before log h.log_is r keeps first began same image left formed in
        let one = cut-either l log t h.log_is has s marks of used image c.0 (above c.0 c.1) (bases c.0 c.1) c.2 (says c.0 c.1 image left c.2.chosen) in (
          c.0.super.base,
          points_at s c.0.super.base,
          one.0,
          one.1,
          one.2,
          sound image left c.0.super.base (points_at s c.0.super.base) one.0 one.1 one.2,
        )
