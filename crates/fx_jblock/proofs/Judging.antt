-- What is said of a block, from what its bytes before the sum are.
use Rattle.std.proofs.Common.{◌≡◌, ℕ, ◌^◌, ◌<◌, List, [], ◌++◌, length, take, drop, sym, ap, ◌∙◌, arith, length-drop}
use Rattle.std.proofs.lemmas.List.{take-append-drop, take_at, drop_at, take_all}
use Rattle.byteorder.specs.Endian.{little_bytes, little_number}
use Rattle.byteorder.specs.Numbers.{little_number-reads_back}
use Rattle.fx_sum.specs.Checksum.{fletch}
use Rattle.fx_jblock.specs.declared.Fit.{Fit}
use Rattle.fx_jblock.specs.declared.Fit.TheVariants.{Torn, Stale, Fits}
use Rattle.fx_jblock.specs.Block.{body, Holds, Continues, IsBody, Judged, stated_sum, sum_from}
use Rattle.fx_base.proofs.Bytes.{IsBytes, IsBytes-drop, wide8}
use Rattle.fx_sum.proofs.Fits.{fletch_fits}
use Rattle.fx_jblock.proofs.Bodies.{body_has_fields, length-body}

-- one block has one epoch and one text
pub same_body : (b : List ℕ) (s e f : ℕ) (t u : List ℕ) → s < 2 ^ 64 → IsBody b s e t → IsBody b s f u → (e ≡ f) × (t ≡ u)
same_body b s e f t u hs p q =
    let x = body_has_fields s e t hs p.fits p.room in
    let y = body_has_fields s f u hs q.fits q.room in
    let same : body s e t ≡ body s f u = sym p.bytes_are ∙ q.bytes_are in
    let epochs : e ≡ f = sym x.0.epoch_is ∙ ap (λ (z : List ℕ). little_number 8 (drop 8 z)) same ∙ y.0.epoch_is in
    let lens : length t ≡ length u = sym x.0.used_is ∙ ap (λ (z : List ℕ). little_number 2 (drop 16 z)) same ∙ y.0.used_is in
    (epochs, sym x.1 ∙ ap (λ (k : ℕ). take k (drop 24 (body s e t))) lens ∙ ap (λ (z : List ℕ). take (length u) (drop 24 z)) same ∙ y.1)

front : (block : List ℕ) (s e chain : ℕ) (text : List ℕ) → Holds block s e chain text → take 4088 block ≡ body s e text
front block s e chain text h =
    ap (take 4088) h.bytes ∙ take_at (body s e text) (little_bytes 8 (fletch chain (body s e text))) 4088 (length-body s e text h.room)

pub continues_body : (block : List ℕ) (s floor generation chain e : ℕ) (text : List ℕ) → generation < 2 ^ 64 → Continues block s floor generation chain e text → IsBody (take 4088 block) s e text
continues_body block s floor generation chain e text hg h =
    record { filled = h.holds.filled; room = h.holds.room; begun = h.holds.begun; fits = omega (arith, h.most); bytes_are = front block s e chain text h.holds }

-- a block of the form has the right sum
pub holds_sum : (block : List ℕ) (s e chain : ℕ) (text : List ℕ) → chain < 2 ^ 64 → Holds block s e chain text → stated_sum block ≡ sum_from chain block
holds_sum block s e chain text hc h =
    let sum = fletch chain (body s e text) in
    let back : drop 4088 block ≡ little_bytes 8 sum = ap (drop 4088) h.bytes ∙ drop_at (body s e text) (little_bytes 8 sum) 4088 (length-body s e text h.room) in
    let stated : stated_sum block ≡ sum = ap (little_number 8) back ∙ little_number-reads_back 8 sum [] (fletch_fits chain (body s e text) hc) in
    stated ∙ ap (fletch chain) (sym (front block s e chain text h))

-- bytes of the form under a right sum are a block of the form
pub holds_from : (block : List ℕ) (s e chain : ℕ) (text : List ℕ) → length block ≡ 4096 → IsBytes block → stated_sum block ≡ sum_from chain block → IsBody (take 4088 block) s e text → Holds block s e chain text
holds_from block s e chain text len fits sum h =
    let end_len : length (drop 4088 block) ≡ 8 = omega (arith, length-drop 4088 block) in
    let stands : little_bytes 8 (stated_sum block) ≡ drop 4088 block = wide8.stands (drop 4088 block) (omega arith) (IsBytes-drop 4088 block fits) ∙ take_all 8 (drop 4088 block) (omega arith) in
    let sum_is : stated_sum block ≡ fletch chain (body s e text) = sum ∙ ap (fletch chain) h.bytes_are in
    record {
      filled = h.filled;
      room = h.room;
      begun = h.begun;
      bytes = sym (take-append-drop 4088 block) ∙ ap (λ (x : List ℕ). x ++ drop 4088 block) h.bytes_are ∙ ap (λ (x : List ℕ). body s e text ++ x) (sym stands) ∙ ap (λ (k : ℕ). body s e text ++ little_bytes 8 k) sum_is;
    }

-- what is said of a block that continues the stream
pub continues_fits : (block : List ℕ) (s floor generation chain : ℕ) (fit : Fit) (e : ℕ) (text : List ℕ) → s < 2 ^ 64 → generation < 2 ^ 64 → chain < 2 ^ 64
    → Judged block s floor generation chain fit → Continues block s floor generation chain e text → fit ≡ Fits (fletch chain (body s e text)) e (length text)
continues_fits block s floor generation chain Torn e text hs hg hc judged h = absurd (judged (holds_sum block s e chain text hc h.holds))
continues_fits block s floor generation chain Stale e text hs hg hc judged h = absurd (judged.1 e text h)
continues_fits block s floor generation chain (Fits after epoch used) e text hs hg hc judged h =
    let one = same_body (take 4088 block) s epoch e judged.0 text hs (continues_body block s floor generation chain epoch judged.0 hg judged.3) (continues_body block s floor generation chain e text hg h) in
    let after_is : after ≡ fletch chain (body s e text) = judged.2 ∙ ap (fletch chain) (front block s e chain text h.holds) in
    let used_is : used ≡ length text = sym judged.1 ∙ ap length one.1 in
    ap (λ (x : ℕ). Fits x epoch used) after_is ∙ ap (λ (x : ℕ). Fits (fletch chain (body s e text)) x used) one.0 ∙ ap (λ (x : ℕ). Fits (fletch chain (body s e text)) e x) used_is
