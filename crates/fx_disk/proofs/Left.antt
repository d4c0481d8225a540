-- What a further call changes of what may be left.
use Rattle.std.proofs.Common.{◌≡◌, ℕ, ◌+◌, ◌≤◌, ◌<◌, Bool, false, List, [], ◌∷◌, ◌++◌, length, refl, subst, sym, ◌∙◌, arith}
use Rattle.std.proofs.lemmas.List.{take-append-le, length-append, get_or_append_left}
use Rattle.std.proofs.Math.Seq.{take-length, take-append_seam, get_or-append_seam}
use Rattle.std.proofs.Math.Path.{fun_ext}
use Rattle.fx_disk.specs.Record.{Call, Write, Flush, DiskRecord, Cell, Fits, Left, LeftNow, after_call, within_call, after_calls, call_at, cell_after, cell_at, cell_now}
use Rattle.fx_disk.specs.Steps.{with_call}

pub after_calls-append : (b : ℕ) (xs ys : List Call) (cell : Cell) → after_calls b (xs ++ ys) cell ≡ after_calls b ys (after_calls b xs cell)
after_calls-append b [] ys cell = refl
after_calls-append b (x ∷ xs) ys cell = after_calls-append b xs ys (after_call b x cell)

pub length-with_call : (r : DiskRecord) (call : Call) (contents : List (List ℕ)) → length (with_call r call contents).calls ≡ length r.calls + 1
length-with_call r call contents = length-append r.calls (call ∷ [])

pub cell_now-with_call : (r : DiskRecord) (call : Call) (contents : List (List ℕ)) (b : ℕ) → cell_now (with_call r call contents) b ≡ after_call b call (cell_now r b)
cell_now-with_call r call contents b = after_calls-append b r.calls (call ∷ []) _

-- the first calls do not change
pub cell_after-with_call : (r : DiskRecord) (call : Call) (contents : List (List ℕ)) (m b : ℕ) → m ≤ length r.calls → cell_after (with_call r call contents) m b ≡ cell_after r m b
cell_after-with_call r call contents m b le = rw (take-append-le m r.calls (call ∷ []) le) refl

-- a further call changes no earlier moment
pub cell_at-earlier : (r : DiskRecord) (call : Call) (contents : List (List ℕ)) (m b : ℕ) → m < length r.calls → cell_at (with_call r call contents) m b ≡ cell_at r m b
cell_at-earlier r call contents m b lt =
    let le : m ≤ length r.calls = omega arith in
    rw (take-append-le m r.calls (call ∷ []) le, get_or_append_left r.calls (call ∷ []) (Flush false) m lt) refl

past : (calls : List Call) → call_at calls (length calls) ≡ Flush false
past [] = refl
past (call ∷ calls) = past calls

-- at the moment of the last call
pub cell_at-now : (r : DiskRecord) (b : ℕ) → cell_at r (length r.calls) b ≡ cell_now r b
cell_at-now r b = rw (past r.calls, take-length r.calls) refl

-- the moment of the last call, once a further one is made
pub cell_at-within : (r : DiskRecord) (call : Call) (contents : List (List ℕ)) (b : ℕ) → cell_at (with_call r call contents) (length r.calls) b ≡ within_call b call (cell_now r b)
cell_at-within r call contents b = rw (take-append_seam r.calls (call ∷ []), get_or-append_seam r.calls call [] (Flush false)) refl

pub cell_at-after : (r : DiskRecord) (call : Call) (contents : List (List ℕ)) (b : ℕ) → cell_at (with_call r call contents) (length r.calls + 1) b ≡ cell_now (with_call r call contents) b
cell_at-after r call contents b =
    subst (λ (n : ℕ). cell_at (with_call r call contents) n b ≡ cell_now (with_call r call contents) b) (length-with_call r call contents) (cell_at-now (with_call r call contents) b)

-- the same for all blocks at once
pub cells-earlier : (r : DiskRecord) (call : Call) (contents : List (List ℕ)) (m : ℕ) → m < length r.calls → cell_at (with_call r call contents) m ≡ cell_at r m
cells-earlier r call contents m lt = fun_ext (λ b. cell_at-earlier r call contents m b lt)

pub cells-now : (r : DiskRecord) → cell_at r (length r.calls) ≡ cell_now r
cells-now r = fun_ext (cell_at-now r)

pub cells-after : (r : DiskRecord) (call : Call) (contents : List (List ℕ)) → cell_at (with_call r call contents) (length r.calls + 1) ≡ cell_now (with_call r call contents)
cells-after r call contents = fun_ext (cell_at-after r call contents)

pub cells-within_write : (r : DiskRecord) (at : ℕ) (bytes : List ℕ) (ok : Bool) (contents : List (List ℕ)) → cell_at (with_call r (Write at bytes ok) contents) (length r.calls) ≡ cell_now (with_call r (Write at bytes ok) contents)
cells-within_write r at bytes ok contents = fun_ext (λ b. cell_at-within r (Write at bytes ok) contents b ∙ sym (cell_now-with_call r (Write at bytes ok) contents b))

pub cells-within_flush : (r : DiskRecord) (ok : Bool) (contents : List (List ℕ)) → cell_at (with_call r (Flush ok) contents) (length r.calls) ≡ cell_now r
cells-within_flush r ok contents = fun_ext (λ b. cell_at-within r (Flush ok) contents b)

-- `Fits` reads its cells one by one
pub Fits-same : (f g : ℕ → Cell) (n : ℕ) (image : List (List ℕ)) → f ≡ g → Fits f n image → Fits g n image
Fits-same f g n image same fits = subst (λ (cells : ℕ → Cell). Fits cells n image) same fits

-- a further call changes nothing of what may be left at an earlier moment
pub Left-earlier : (r : DiskRecord) (call : Call) (contents : List (List ℕ)) (m : ℕ) (image : List (List ℕ)) → m < length r.calls → Left (with_call r call contents) m image → Left r m image
Left-earlier r call contents m image lt left = Fits-same _ _ _ _ (cells-earlier r call contents m lt) left

pub Left-still : (r : DiskRecord) (call : Call) (contents : List (List ℕ)) (m : ℕ) (image : List (List ℕ)) → m < length r.calls → Left r m image → Left (with_call r call contents) m image
Left-still r call contents m image lt left = Fits-same _ _ _ _ (sym (cells-earlier r call contents m lt)) left

pub Left-now : (r : DiskRecord) (image : List (List ℕ)) → Left r (length r.calls) image → LeftNow r image
Left-now r image left = Fits-same _ _ _ _ (cells-now r) left

pub Left-at_now : (r : DiskRecord) (image : List (List ℕ)) → LeftNow r image → Left r (length r.calls) image
Left-at_now r image left = Fits-same _ _ _ _ (sym (cells-now r)) left

-- within a write that is made, what is left is what the write leaves
pub Left-within_write : (r : DiskRecord) (at : ℕ) (bytes : List ℕ) (ok : Bool) (contents : List (List ℕ)) (image : List (List ℕ)) → Left (with_call r (Write at bytes ok) contents) (length r.calls) image → LeftNow (with_call r (Write at bytes ok) contents) image
Left-within_write r at bytes ok contents image left = Fits-same _ _ _ _ (cells-within_write r at bytes ok contents) left

-- within a flush, what was left before
pub Left-within_flush : (r : DiskRecord) (ok : Bool) (contents : List (List ℕ)) (image : List (List ℕ)) → Left (with_call r (Flush ok) contents) (length r.calls) image → LeftNow r image
Left-within_flush r ok contents image left = Fits-same _ _ _ _ (cells-within_flush r ok contents) left

pub Left-after : (r : DiskRecord) (call : Call) (contents : List (List ℕ)) (image : List (List ℕ)) → Left (with_call r call contents) (length r.calls + 1) image → LeftNow (with_call r call contents) image
Left-after r call contents image left = Fits-same _ _ _ _ (cells-after r call contents) left
