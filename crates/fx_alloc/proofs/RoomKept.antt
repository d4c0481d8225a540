-- The facts on counts are kept by each call.
use Rattle.std.proofs.Common.{◌≡◌, ℕ, ◌+◌, ◌*◌, ◌<◌, ◌≤◌, suc, Bool, true, false, cond, ◌==◌, nat_le, nat_lt, List, [], ◌∷◌, ◌++◌, length, map, count_by, All, Option, Some, None, IsSome, refl, sym, ◌∙◌, ap, subst, arith, not, length-set, inl, inr}
use Rattle.std.proofs.lemmas.List.{length-map}
use Rattle.std.proofs.lemmas.Bool.{ltb-true, ltb-false}
use Rattle.std.proofs.lemmas.List.Sums.{sum_by-set, sum_by-cons, sum_by-append}
use Rattle.std.proofs.lemmas.List.Folds.{sum_by-replicate}
use Rattle.fx_item.specs.SpaceRule.{layer_bound}
use Rattle.fx_alloc.specs.declared.uses.Use.{Use}
use Rattle.fx_alloc.specs.declared.uses.Use.TheVariants.{Free, Drawn, Live, Freed, Layer, Laid, Pinned}
use Rattle.fx_alloc.specs.declared.uses.Waiting.{Waiting}
use Rattle.fx_alloc.specs.declared.holders.Holder.{Holder}
use Rattle.fx_alloc.specs.declared.holders.TheConstants.{VACANT}
use Rattle.fx_alloc.specs.Uses.{use_at, is_drawn_by, is_live, is_freed, is_layer, put_all, blank, AreUsed}
use Rattle.fx_alloc.specs.Holders.{held_seat, sits_on, needing, having_drawn}
use Rattle.fx_alloc.specs.Pins.{is_among, is_kept}
use Rattle.fx_alloc.specs.Layers.{switched_use, unpinned_use}
use Rattle.fx_alloc.specs.Space.{Space, live_of, undrawn, drawn, held_nodes, held_attributes, left_aside, aside_count, bounds_kept, nodes_with, attributes_with, blocks_with, bound_with, no_need, free_count, laid_of, holder_at, opened, sitting, reserved, turned, unlaid, settled_blocks, left_waiting, setting_aside, IsFree, CanReserve, IsLatest}
use Rattle.fx_alloc.specs.SpaceFacts.{held_blocks, held_bound, freed_of, layer_count, freed_after, HasSpace, IsTurned, KeepsRoom, OpenedRoom, SeatRoom, ReservedRoom, DrawnRoom, UndoneRoom, TakenRoom, FreedRoom, SettledRoom, AsideRoom, LaidRoom, SwitchedRoom, PinnedRoom, UnpinnedRoom, SpaceIsWhole, CheckpointsBegin, CountsDecide}
use Rattle.fx_alloc.proofs.Positions.{position-some}
use Rattle.fx_alloc.proofs.UseLists.{moved, within, count-put_all, length-put_all, length-blank, blank-count}
use Rattle.fx_alloc.proofs.SpaceMoves.{settled_used}
use Rattle.fx_alloc.proofs.SpaceOpened.{free_live, free_layers}
use Rattle.fx_alloc.proofs.SpaceSwitched.{each_use}
use Rattle.fx_alloc.proofs.Changes.{count-rises, count-map}

-- ---- fewer of everything

bound-less : (n a b m c d : ℕ) → n ≤ m → a ≤ c → b ≤ d → layer_bound n a b ≤ layer_bound m c d
bound-less n a b m c d p q r = omega (arith, p, q, r)

record IsLower (s t : Space) : Type 0 where
  disk : length t.uses ≡ length s.uses
  ring : t.ring ≡ s.ring
  nodes : nodes_with t no_need ≤ nodes_with s no_need
  attributes : attributes_with t no_need ≤ attributes_with s no_need
  blocks : live_of t + held_blocks t ≤ live_of s + held_blocks s
  waits : live_of t + freed_of t + held_blocks t ≤ live_of s + freed_of s + held_blocks s
  layers : layer_count t ≤ layer_count s
  aside : aside_count t.aside ≤ aside_count s.aside
  after : (n : ℕ) → live_of t + freed_after n t.waiting + held_blocks t ≤ live_of s + freed_after n s.waiting + held_blocks s

lower-bound : {s t : Space} → IsLower s t → held_bound t ≤ held_bound s
lower-bound {s} {t} l = bound-less (nodes_with t no_need) (attributes_with t no_need) (blocks_with t no_need) (nodes_with s no_need) (attributes_with s no_need) (blocks_with s no_need) l.nodes l.attributes (let b = l.blocks in omega (arith, b))

lower-keeps : {s t : Space} → IsLower s t → KeepsRoom s t
lower-keeps {s} {t} l = record {
  roomy = λ r. record {
    small = (let x = lower-bound l in let y = r.small in omega (arith, x, y, l.blocks, l.disk, l.ring));
    ready = (let x = lower-bound l in let y = r.ready in omega (arith, x, y, l.waits, l.layers, l.disk, l.ring));
  };
  turned = λ n r. record { turned = (let x = lower-bound l in let y = r.turned in omega (arith, x, y, l.after n, l.aside, l.disk, l.ring)) };
}

-- ---- what was drawn gets another use

turned-keeps : (seat : ℕ) (to : Use) (p : Use → Bool) → ((k : ℕ) → p (Drawn k) ≡ false) → p to ≡ false → (u : Use) → p (turned seat to u) ≡ p u
turned-keeps seat to p d t = each_use (λ u. p (turned seat to u) ≡ p u) refl refl (λ k. told k (k == seat)) refl refl refl refl refl
  where
    told : (k : ℕ) (x : Bool) → p (cond x to (Drawn k)) ≡ p (Drawn k)
    told k true = t ∙ sym (d k)
    told k false = refl

count-turned : (seat : ℕ) (to : Use) (p : Use → Bool) → ((k : ℕ) → p (Drawn k) ≡ false) → p to ≡ false → (us : List Use) → count_by p (map (turned seat to) us) ≡ count_by p us
count-turned seat to p d t us = count-map p (turned seat to) us (turned-keeps seat to p d t)

now-live : (seat : ℕ) (u : Use) → cond {A = ℕ} (is_live (turned seat Live u)) 1 0 ≡ cond {A = ℕ} (is_live u) 1 0 + cond {A = ℕ} (is_drawn_by seat u) 1 0
now-live seat = each_use (λ u. cond {A = ℕ} (is_live (turned seat Live u)) 1 0 ≡ cond {A = ℕ} (is_live u) 1 0 + cond {A = ℕ} (is_drawn_by seat u) 1 0) refl refl (λ k. told k (k == seat)) refl refl refl refl refl
  where
    told : (k : ℕ) (x : Bool) → cond {A = ℕ} (is_live (cond x Live (Drawn k))) 1 0 ≡ 0 + cond {A = ℕ} x 1 0
    told k true = refl
    told k false = refl

count-now_live : (seat : ℕ) (us : List Use) → count_by is_live (map (turned seat Live) us) ≡ count_by is_live us + count_by (is_drawn_by seat) us
count-now_live seat [] = refl
count-now_live seat (x ∷ xs) =
    let a : count_by is_live (turned seat Live x ∷ map (turned seat Live) xs) ≡ cond (is_live (turned seat Live x)) 1 0 + count_by is_live (map (turned seat Live) xs) = sum_by-cons (λ u. cond (is_live u) 1 0) (turned seat Live x) (map (turned seat Live) xs) in
    let b : count_by is_live (x ∷ xs) ≡ cond (is_live x) 1 0 + count_by is_live xs = sum_by-cons (λ u. cond (is_live u) 1 0) x xs in
    let c : count_by (is_drawn_by seat) (x ∷ xs) ≡ cond (is_drawn_by seat x) 1 0 + count_by (is_drawn_by seat) xs = sum_by-cons (λ u. cond (is_drawn_by seat u) 1 0) x xs in
    omega (arith, a, b, c, now-live seat x, count-now_live seat xs)

-- the uses of all blocks pass a test as before
count-each : (p : Use → Bool) (us vs : List Use) → length vs ≡ length us → ((b : ℕ) → p (use_at vs b) ≡ p (use_at us b)) → count_by p vs ≡ count_by p us
count-each p us vs e h = omega (arith, count-rises p us vs e (λ b q. h b ∙ q), count-rises p vs us (sym e) (λ b q. sym (h b) ∙ q))

-- ---- seats

seat-there : (s : Space) (who seat : ℕ) → held_seat s.holders who ≡ Some seat → seat < length s.holders
seat-there s who seat e = (position-some (λ x. sits_on who x) s.holders seat VACANT e).0

pub seat-room : SeatRoom
seat-room s who seat e =
    let l : seat < length s.holders = (position-some (λ h. not h.sits) s.holders seat VACANT e).0 in
    let n = sum_by-set (λ (x : Holder). x.nodes) s.holders seat (sitting who) VACANT l in
    let a = sum_by-set (λ (x : Holder). x.attributes) s.holders seat (sitting who) VACANT l in
    let h = sum_by-set (λ (x : Holder). x.held) s.holders seat (sitting who) VACANT l in
    let d = sum_by-set (λ (x : Holder). x.drawn) s.holders seat (sitting who) VACANT l in
    lower-keeps (record {
      disk = refl;
      ring = refl;
      nodes = omega (arith, n);
      attributes = omega (arith, a);
      blocks = omega (arith, h, d);
      waits = omega (arith, h, d);
      layers = omega arith;
      aside = omega arith;
      after = λ k. omega (arith, h, d);
    })

pub undone-room : UndoneRoom
undone-room s who seat e =
    let l : seat < length s.holders = seat-there s who seat e in
    let n = sum_by-set (λ (x : Holder). x.nodes) s.holders seat VACANT VACANT l in
    let a = sum_by-set (λ (x : Holder). x.attributes) s.holders seat VACANT VACANT l in
    let h = sum_by-set (λ (x : Holder). x.held) s.holders seat VACANT VACANT l in
    let d = sum_by-set (λ (x : Holder). x.drawn) s.holders seat VACANT VACANT l in
    let live : count_by is_live (map (turned seat Free) s.uses) ≡ live_of s = count-turned seat Free (λ u. is_live u) (λ k. refl) refl s.uses in
    let freed : count_by is_freed (map (turned seat Free) s.uses) ≡ freed_of s = count-turned seat Free (λ u. is_freed u) (λ k. refl) refl s.uses in
    let layers : count_by is_layer (map (turned seat Free) s.uses) ≡ layer_count s = count-turned seat Free (λ u. is_layer u) (λ k. refl) refl s.uses in
    lower-keeps (record {
      disk = length-map s.uses (turned seat Free);
      ring = refl;
      nodes = omega (arith, n);
      attributes = omega (arith, a);
      blocks = omega (arith, h, d, live);
      waits = omega (arith, h, d, live, freed);
      layers = omega (arith, layers);
      aside = omega arith;
      after = λ k. omega (arith, h, d, live);
    })

pub taken-room : TakenRoom
taken-room s who seat sizes sound e few less =
    let l : seat < length s.holders = seat-there s who seat e in
    let n = sum_by-set (λ (x : Holder). x.nodes) s.holders seat VACANT VACANT l in
    let a = sum_by-set (λ (x : Holder). x.attributes) s.holders seat VACANT VACANT l in
    let h = sum_by-set (λ (x : Holder). x.held) s.holders seat VACANT VACANT l in
    let d = sum_by-set (λ (x : Holder). x.drawn) s.holders seat VACANT VACANT l in
    let live : count_by is_live (map (turned seat Live) s.uses) ≡ live_of s + count_by (is_drawn_by seat) s.uses = count-now_live seat s.uses in
    let own : count_by (is_drawn_by seat) s.uses ≡ (holder_at s.holders seat).drawn = sound.of_seats seat in
    let freed : count_by is_freed (map (turned seat Live) s.uses) ≡ freed_of s = count-turned seat Live (λ u. is_freed u) (λ k. refl) refl s.uses in
    let layers : count_by is_layer (map (turned seat Live) s.uses) ≡ layer_count s = count-turned seat Live (λ u. is_layer u) (λ k. refl) refl s.uses in
    lower-keeps (record {
      disk = length-map s.uses (turned seat Live);
      ring = refl;
      nodes = omega (arith, n, few);
      attributes = omega (arith, a, less);
      blocks = omega (arith, h, d, live, own);
      waits = omega (arith, h, d, live, own, freed);
      layers = omega (arith, layers);
      aside = omega arith;
      after = λ k. omega (arith, h, d, live, own);
    })

pub drawn-room : DrawnRoom
drawn-room s who seat block e held free =
    let l : seat < length s.holders = seat-there s who seat e in
    let b : block < length s.uses = within s.uses block Free free (λ x. cc) in
    let n = sum_by-set (λ (x : Holder). x.nodes) s.holders seat (having_drawn (holder_at s.holders seat)) VACANT l in
    let a = sum_by-set (λ (x : Holder). x.attributes) s.holders seat (having_drawn (holder_at s.holders seat)) VACANT l in
    let h = sum_by-set (λ (x : Holder). x.held) s.holders seat (having_drawn (holder_at s.holders seat)) VACANT l in
    let d = sum_by-set (λ (x : Holder). x.drawn) s.holders seat (having_drawn (holder_at s.holders seat)) VACANT l in
    let live = moved (λ u. is_live u) s.uses block Free (Drawn seat) b free in
    let freed = moved (λ u. is_freed u) s.uses block Free (Drawn seat) b free in
    let layers = moved (λ u. is_layer u) s.uses block Free (Drawn seat) b free in
    lower-keeps (record {
      disk = length-set s.uses block (Drawn seat);
      ring = refl;
      nodes = omega (arith, n);
      attributes = omega (arith, a);
      blocks = omega (arith, h, d, live, held);
      waits = omega (arith, h, d, live, freed, held);
      layers = omega (arith, layers);
      aside = omega arith;
      after = λ k. omega (arith, h, d, live, held);
    })

-- ---- what is free is enough

covered : (o : Option ℕ) (n : ℕ) → aside_count o ≤ n + left_aside o n
covered None n = omega arith
covered (Some m) n = omega arith

freed-fewer : (k : ℕ) (ws : List Waiting) → freed_after k ws ≤ length ws
freed-fewer k [] = omega arith
freed-fewer k (w ∷ ws) =
    let a : freed_after k (w ∷ ws) ≡ cond (nat_lt k w.number) 1 0 + freed_after k ws = sum_by-cons (λ v. cond (nat_lt k v.number) 1 0) w ws in
    omega (arith, a, one (nat_lt k w.number), freed-fewer k ws)
  where
    one : (b : Bool) → cond {A = ℕ} b 1 0 ≤ 1
    one true = omega arith
    one false = omega arith

pub reserved-room : ReservedRoom
reserved-room s who seat need sound e can = (roomy can, λ k begun r. over s.aside refl begun k r)
  where
    l : seat < length s.holders
    l = seat-there s who seat e

    n : held_nodes (reserved s need seat).holders + (holder_at s.holders seat).nodes ≡ held_nodes s.holders + ((holder_at s.holders seat).nodes + need.nodes)
    n = sum_by-set (λ (x : Holder). x.nodes) s.holders seat (needing (holder_at s.holders seat) need) VACANT l

    a : held_attributes (reserved s need seat).holders + (holder_at s.holders seat).attributes ≡ held_attributes s.holders + ((holder_at s.holders seat).attributes + need.attributes)
    a = sum_by-set (λ (x : Holder). x.attributes) s.holders seat (needing (holder_at s.holders seat) need) VACANT l

    h : undrawn (reserved s need seat).holders + (holder_at s.holders seat).held ≡ undrawn s.holders + ((holder_at s.holders seat).held + need.blocks)
    h = sum_by-set (λ (x : Holder). x.held) s.holders seat (needing (holder_at s.holders seat) need) VACANT l

    d : drawn (reserved s need seat).holders + (holder_at s.holders seat).drawn ≡ drawn s.holders + (holder_at s.holders seat).drawn
    d = sum_by-set (λ (x : Holder). x.drawn) s.holders seat (needing (holder_at s.holders seat) need) VACANT l

    bound : held_bound (reserved s need seat) ≤ bound_with s need
    bound = bound-less (nodes_with (reserved s need seat) no_need) (attributes_with (reserved s need seat) no_need) (blocks_with (reserved s need seat) no_need) (nodes_with s need) (attributes_with s need) (blocks_with s need) (omega (arith, n)) (omega (arith, a)) (omega (arith, h, d))

    same : (need.nodes ≡ 0) × (need.attributes ≡ 0) × (need.blocks ≡ 0) → held_bound (reserved s need seat) ≤ held_bound s
    same z = bound-less (nodes_with (reserved s need seat) no_need) (attributes_with (reserved s need seat) no_need) (blocks_with (reserved s need seat) no_need) (nodes_with s no_need) (attributes_with s no_need) (blocks_with s no_need) (omega (arith, n, z.0)) (omega (arith, a, z.1)) (omega (arith, h, d, z.2))

    -- free blocks, the bound among them
    spare : (o : Option ℕ) → s.aside ≡ o → IsFree s need → undrawn s.holders + left_aside s.aside (laid_of s) + need.blocks + bound_with s need ≤ free_count s
    spare None q f = (let g = subst (λ (o : Option ℕ). undrawn s.holders + left_aside s.aside (laid_of s) + need.blocks + bounds_kept o * bound_with s need ≤ free_count s) q f in omega (arith, g))
    spare (Some m) q f = (let g = subst (λ (o : Option ℕ). undrawn s.holders + left_aside s.aside (laid_of s) + need.blocks + bounds_kept o * bound_with s need ≤ free_count s) q f in omega (arith, g))

    roomy : CanReserve s need → HasSpace s → HasSpace (reserved s need seat)
    roomy (inl z) r = record {
      small = (let x = same z in let y = r.small in omega (arith, x, y, h, d, z.2));
      ready = (let x = same z in let y = r.ready in omega (arith, x, y, h, d, z.2));
    }
    roomy (inr c) r = record {
      small = (let x = bound in let y = c.0.0 in omega (arith, x, y, h, d));
      ready = (let x = bound in let y = spare s.aside refl c.1 in let w = sound.whole in omega (arith, x, y, w, h, d));
    }

    turned-again : CanReserve s need → (k : ℕ) → (m : ℕ) → s.aside ≡ Some m → IsTurned k s → IsTurned k (reserved s need seat)
    turned-again (inl z) k m q r = record { turned = (let x = same z in let y = r.turned in omega (arith, x, y, h, d, z.2)) }
    turned-again (inr c) k m q r = record {
      turned = (let x = bound in let y = spare s.aside refl c.1 in let w = sound.whole in
          let v : aside_count s.aside ≤ laid_of s + left_aside s.aside (laid_of s) = covered s.aside (laid_of s) in
          let u : freed_after k s.waiting ≤ freed_of s = omega (arith, freed-fewer k s.waiting, sound.all_wait) in
          omega (arith, x, y, w, v, u, h, d));
    }

    over : (o : Option ℕ) → s.aside ≡ o → IsSome o → (k : ℕ) → IsTurned k s → IsTurned k (reserved s need seat)
    over None q begun k r = absurd (none_there begun)
      where
        none_there : IsSome {T = ℕ} None → ⊥
        none_there h = cc
    over (Some m) q begun k r = turned-again can k m q r

-- ---- blocks are freed and settled

after-more : (k : ℕ) (ws : List Waiting) (w : Waiting) → freed_after k (ws ++ w ∷ []) ≤ freed_after k ws + 1
after-more k ws w =
    let a : freed_after k (ws ++ w ∷ []) ≡ freed_after k ws + freed_after k (w ∷ []) = sum_by-append (λ v. cond (nat_lt k v.number) 1 0) ws (w ∷ []) in
    omega (arith, a, freed-fewer k (w ∷ []))

after-left : (k n : ℕ) (ws : List Waiting) → freed_after k (left_waiting n ws) ≤ freed_after k ws
after-left k n [] = omega arith
after-left k n (w ∷ ws) =
    let a : freed_after k (w ∷ ws) ≡ cond (nat_lt k w.number) 1 0 + freed_after k ws = sum_by-cons (λ v. cond (nat_lt k v.number) 1 0) w ws in
    told (after-left k n ws) a (nat_le w.number n)
  where
    told : freed_after k (left_waiting n ws) ≤ freed_after k ws → freed_after k (w ∷ ws) ≡ cond (nat_lt k w.number) 1 0 + freed_after k ws → (b : Bool) → freed_after k (cond b (left_waiting n ws) (w ∷ ws)) ≤ freed_after k (w ∷ ws)
    told ih a true = omega (arith, ih, a)
    told ih a false = omega arith

pub freed-room : FreedRoom
freed-room s block number e =
    let b : block < length s.uses = within s.uses block Live e (λ x. cc) in
    let live = moved (λ u. is_live u) s.uses block Live Freed b e in
    let freed = moved (λ u. is_freed u) s.uses block Live Freed b e in
    let layers = moved (λ u. is_layer u) s.uses block Live Freed b e in
    lower-keeps (record {
      disk = length-set s.uses block Freed;
      ring = refl;
      nodes = omega arith;
      attributes = omega arith;
      blocks = omega (arith, live);
      waits = omega (arith, live, freed);
      layers = omega (arith, layers);
      aside = omega arith;
      after = λ k. omega (arith, live, after-more k s.waiting (record { block = block; number = number }));
    })

pub settled-room : SettledRoom
settled-room s number sound =
    let used : AreUsed Freed s.uses (settled_blocks number s.waiting) = settled_used number s.waiting sound.waits in
    let live = count-put_all (λ u. is_live u) Freed Free (settled_blocks number s.waiting) s.uses false false (λ x. cc) refl refl used in
    let freed = count-put_all (λ u. is_freed u) Freed Free (settled_blocks number s.waiting) s.uses true false (λ x. cc) refl refl used in
    let layers = count-put_all (λ u. is_layer u) Freed Free (settled_blocks number s.waiting) s.uses false false (λ x. cc) refl refl used in
    lower-keeps (record {
      disk = length-put_all Free (settled_blocks number s.waiting) s.uses;
      ring = refl;
      nodes = omega arith;
      attributes = omega arith;
      blocks = omega (arith, live);
      waits = omega (arith, live, freed);
      layers = omega (arith, layers);
      aside = omega arith;
      after = λ k. omega (arith, live, after-left k number s.waiting);
    })

-- ---- a checkpoint

unlaid-keeps : (p : Use → Bool) → p Free ≡ p Laid → (u : Use) → p (unlaid u) ≡ p u
unlaid-keeps p e = each_use (λ u. p (unlaid u) ≡ p u) refl refl (λ k. refl) refl refl refl e refl

none-after : (n : ℕ) (ws : List Waiting) → IsLatest n ws → freed_after n ws ≡ 0
none-after n [] h = refl
none-after n (w ∷ ws) h =
    let a : freed_after n (w ∷ ws) ≡ cond (nat_lt n w.number) 1 0 + freed_after n ws = sum_by-cons (λ v. cond (nat_lt n v.number) 1 0) w ws in
    let m : w.number ≤ n = h 0 w (omega arith) in
    omega (arith, a, not_less (nat_lt n w.number) refl m, none-after n ws (λ k d l. h (suc k) d (omega (arith, l))))
  where
    not_less : (b : Bool) → nat_lt n w.number ≡ b → w.number ≤ n → cond {A = ℕ} b 1 0 ≡ 0
    not_less true e m = absurd (omega (arith, m, ltb-true n w.number e))
    not_less false e m = refl

pub aside-room : AsideRoom
aside-room s n sound latest r =
    let live : count_by is_live (map unlaid s.uses) ≡ live_of s = count-map (λ u. is_live u) unlaid s.uses (unlaid-keeps (λ u. is_live u) refl) in
    let freed : count_by is_freed (map unlaid s.uses) ≡ freed_of s = count-map (λ u. is_freed u) unlaid s.uses (unlaid-keeps (λ u. is_freed u) refl) in
    let layers : count_by is_layer (map unlaid s.uses) ≡ layer_count s = count-map (λ u. is_layer u) unlaid s.uses (unlaid-keeps (λ u. is_layer u) refl) in
    let disk : length (map unlaid s.uses) ≡ length s.uses = length-map s.uses unlaid in
    let bound : held_bound (setting_aside s) ≤ held_bound s = bound-less (nodes_with (setting_aside s) no_need) (attributes_with (setting_aside s) no_need) (blocks_with (setting_aside s) no_need) (nodes_with s no_need) (attributes_with s no_need) (blocks_with s no_need) (omega arith) (omega arith) (omega (arith, live)) in (
      record {
        small = (let y = r.small in omega (arith, y, bound, live, disk));
        ready = (let y = r.ready in omega (arith, y, bound, live, freed, layers, disk));
      },
      record { turned = (let y = r.small in omega (arith, y, bound, live, disk, none-after n s.waiting latest)) },
    )

pub laid-room : LaidRoom
laid-room s block e =
    let b : block < length s.uses = within s.uses block Free e (λ x. cc) in
    let live = moved (λ u. is_live u) s.uses block Free Laid b e in
    let freed = moved (λ u. is_freed u) s.uses block Free Laid b e in
    let layers = moved (λ u. is_layer u) s.uses block Free Laid b e in
    lower-keeps (record {
      disk = length-set s.uses block Laid;
      ring = refl;
      nodes = omega arith;
      attributes = omega arith;
      blocks = omega (arith, live);
      waits = omega (arith, live, freed);
      layers = omega (arith, layers);
      aside = omega arith;
      after = λ k. omega (arith, live);
    })

all-after : (n : ℕ) (ws : List Waiting) → All (λ w. n < w.number) ws → freed_after n ws ≡ length ws
all-after n [] h = refl
all-after n (w ∷ ws) h =
    let a : freed_after n (w ∷ ws) ≡ cond (nat_lt n w.number) 1 0 + freed_after n ws = sum_by-cons (λ v. cond (nat_lt n v.number) 1 0) w ws in
    let m : n < w.number = h 0 w (omega arith) in
    omega (arith, a, is_less (nat_lt n w.number) refl m, all-after n ws (λ k d l. h (suc k) d (omega (arith, l))))
  where
    is_less : (b : Bool) → nat_lt n w.number ≡ b → n < w.number → cond {A = ℕ} b 1 0 ≡ 1
    is_less true e m = refl
    is_less false e m = absurd (omega (arith, m, ltb-false n w.number e))

-- a test that a change of layers does not alter
switched-keeps : (p : Use → Bool) → p Layer ≡ false → p Laid ≡ false → p Free ≡ false → p Pinned ≡ false → (x y : Bool) (u : Use) → p (switched_use x y u) ≡ p u
switched-keeps p a b c d x y = each_use (λ u. p (switched_use x y u) ≡ p u) refl refl (λ k. refl) refl refl (layer x y) (a ∙ sym b) refl
  where
    layer : (x y : Bool) → p (switched_use x y Layer) ≡ p Layer
    layer true y = refl
    layer false true = d ∙ sym a
    layer false false = c ∙ sym a

-- the new value, by its uses alone
same-counts : (s t : Space) → t ≡ record s { uses = t.uses; aside = None; pins = record s.pins { present = None } } → (live_of t ≡ live_of s) → (held_bound t ≤ held_bound s) × (held_blocks t ≡ held_blocks s) × (t.ring ≡ s.ring)
same-counts s t e live = (
  bound-less (nodes_with t no_need) (attributes_with t no_need) (blocks_with t no_need) (nodes_with s no_need) (attributes_with s no_need) (blocks_with s no_need)
      (omega (arith, ap (λ (v : Space). nodes_with v no_need) e)) (omega (arith, ap (λ (v : Space). attributes_with v no_need) e)) (omega (arith, live, ap (λ (v : Space). held_blocks v) e)),
  ap (λ (v : Space). held_blocks v) e,
  ap (λ (v : Space). v.ring) e,
)

pub switched-room : SwitchedRoom
switched-room s t stay n h r turned few late sound =
    let live : live_of t ≡ live_of s = count-each (λ u. is_live u) s.uses t.uses h.disk (λ b. ap (λ (u : Use). is_live u) (h.uses b) ∙ switched-keeps (λ u. is_live u) refl refl refl refl (is_among b stay) (is_kept s.pins.kept b) (use_at s.uses b)) in
    let freed : freed_of t ≡ freed_of s = count-each (λ u. is_freed u) s.uses t.uses h.disk (λ b. ap (λ (u : Use). is_freed u) (h.uses b) ∙ switched-keeps (λ u. is_freed u) refl refl refl refl (is_among b stay) (is_kept s.pins.kept b) (use_at s.uses b)) in
    let same = same-counts s t h.others live in
    record {
      small = (let y = r.small in omega (arith, y, same.0, same.1, same.2, live, h.disk));
      ready = (let y = turned.turned in omega (arith, y, same.0, same.1, same.2, live, freed, h.disk, few, all-after n s.waiting late, sound.all_wait));
    }

-- ---- pins

pub pinned-room : PinnedRoom
pinned-room s t e = subst (λ (v : Space). KeepsRoom s v) (sym e) (record {
  roomy = λ r. record { small = r.small; ready = r.ready };
  turned = λ n r. record { turned = r.turned };
})

unpinned-keeps : (p : Use → Bool) → p Free ≡ p Pinned → (x : Bool) (u : Use) → p (unpinned_use x u) ≡ p u
unpinned-keeps p e x = each_use (λ u. p (unpinned_use x u) ≡ p u) refl refl (λ k. refl) refl refl refl refl (told x)
  where
    told : (x : Bool) → p (unpinned_use x Pinned) ≡ p Pinned
    told true = refl
    told false = e

pub unpinned-room : UnpinnedRoom
unpinned-room s t pin h =
    let live : live_of t ≡ live_of s = count-each (λ u. is_live u) s.uses t.uses h.disk (λ b. ap (λ (u : Use). is_live u) (h.uses b) ∙ unpinned-keeps (λ u. is_live u) refl (is_kept t.pins.kept b) (use_at s.uses b)) in
    let freed : freed_of t ≡ freed_of s = count-each (λ u. is_freed u) s.uses t.uses h.disk (λ b. ap (λ (u : Use). is_freed u) (h.uses b) ∙ unpinned-keeps (λ u. is_freed u) refl (is_kept t.pins.kept b) (use_at s.uses b)) in
    let layers : layer_count t ≡ layer_count s = count-each (λ u. is_layer u) s.uses t.uses h.disk (λ b. ap (λ (u : Use). is_layer u) (h.uses b) ∙ unpinned-keeps (λ u. is_layer u) refl (is_kept t.pins.kept b) (use_at s.uses b)) in
    let held : held_blocks t ≡ held_blocks s = ap (λ (v : Space). held_blocks v) h.others in
    lower-keeps (record {
      disk = h.disk;
      ring = ap (λ (v : Space). v.ring) h.others;
      nodes = omega (arith, ap (λ (v : Space). nodes_with v no_need) h.others);
      attributes = omega (arith, ap (λ (v : Space). attributes_with v no_need) h.others);
      blocks = omega (arith, live, held);
      waits = omega (arith, live, freed, held);
      layers = omega (arith, layers);
      aside = omega (arith, ap (λ (v : Space). aside_count v.aside) h.others);
      after = λ k. omega (arith, live, held, ap (λ (v : Space). freed_after k v.waiting) h.others);
    })

-- ---- what follows

pub space-is_whole : SpaceIsWhole
space-is_whole s sound = record {
  whole = (let w = sound.whole in let h = sound.held in let v : aside_count s.aside ≤ laid_of s + left_aside s.aside (laid_of s) = covered s.aside (laid_of s) in
      omega (arith, w, h, v));
}

pub checkpoints-begin : CheckpointsBegin
checkpoints-begin s sound r none = (let w = sound.whole in let y = r.ready in omega (arith, w, y, none))

pub counts-decide : CountsDecide
counts-decide s need sound idle few c =
    let w = sound.whole in
    let y = c.0 in
    let bound : held_bound s ≤ bound_with s need = bound-less (nodes_with s no_need) (attributes_with s no_need) (blocks_with s no_need) (nodes_with s need) (attributes_with s need) (blocks_with s need) (omega arith) (omega arith) (omega arith) in
    let none : laid_of s ≤ 0 = subst (λ (o : Option ℕ). laid_of s ≤ aside_count o) idle sound.laid in
    let no_left : left_aside s.aside (laid_of s) ≡ 0 = ap (λ (o : Option ℕ). left_aside o (laid_of s)) idle in
    let twice : bounds_kept s.aside ≡ 2 = ap (λ (o : Option ℕ). bounds_kept o) idle in
    let goal : undrawn s.holders + left_aside s.aside (laid_of s) + need.blocks + 2 * bound_with s need ≤ free_count s = omega (arith, w, y, bound, none, no_left, few) in
    subst (λ (k : ℕ). undrawn s.holders + left_aside s.aside (laid_of s) + need.blocks + k * bound_with s need ≤ free_count s) (sym twice) goal

pub opened-room : OpenedRoom
opened-room blocks ring live layers sizes fit places apart first second =
    let free : AreUsed Free (blank blocks ring) live = free_live blocks ring live layers fit places apart in
    let after : AreUsed Free (put_all Live live (blank blocks ring)) layers = free_layers blocks ring live layers fit places apart in
    let a : live_of (opened blocks ring live layers sizes) ≡ length live = omega (
      arith,
      count-put_all (λ u. is_live u) Free Live live (blank blocks ring) false true (λ x. cc) refl refl free,
      count-put_all (λ u. is_live u) Free Layer layers (put_all Live live (blank blocks ring)) false false (λ x. cc) refl refl after,
      blank-count (λ u. is_live u) blocks ring false false refl refl,
    ) in
    let b : freed_of (opened blocks ring live layers sizes) ≡ 0 = omega (
      arith,
      count-put_all (λ u. is_freed u) Free Live live (blank blocks ring) false false (λ x. cc) refl refl free,
      count-put_all (λ u. is_freed u) Free Layer layers (put_all Live live (blank blocks ring)) false false (λ x. cc) refl refl after,
      blank-count (λ u. is_freed u) blocks ring false false refl refl,
    ) in
    let c : layer_count (opened blocks ring live layers sizes) ≡ length layers = omega (
      arith,
      count-put_all (λ u. is_layer u) Free Live live (blank blocks ring) false false (λ x. cc) refl refl free,
      count-put_all (λ u. is_layer u) Free Layer layers (put_all Live live (blank blocks ring)) false true (λ x. cc) refl refl after,
      blank-count (λ u. is_layer u) blocks ring false false refl refl,
    ) in
    let size : length (opened blocks ring live layers sizes).uses ≡ blocks = length-put_all Layer layers (put_all Live live (blank blocks ring)) ∙ length-put_all Live live (blank blocks ring) ∙ length-blank blocks ring fit in
    let held : held_blocks (opened blocks ring live layers sizes) ≡ 0 = omega (arith, sum_by-replicate (λ (h : Holder). h.held) 32 VACANT, sum_by-replicate (λ (h : Holder). h.drawn) 32 VACANT) in
    let bound : held_bound (opened blocks ring live layers sizes) ≤ layer_bound sizes.nodes sizes.attributes (length live) =
    bound-less (nodes_with (opened blocks ring live layers sizes) no_need) (attributes_with (opened blocks ring live layers sizes) no_need) (blocks_with (opened blocks ring live layers sizes) no_need) sizes.nodes sizes.attributes (length live)
    (omega (arith, sum_by-replicate (λ (h : Holder). h.nodes) 32 VACANT)) (omega (arith, sum_by-replicate (λ (h : Holder). h.attributes) 32 VACANT)) (omega (arith, a, held)) in
    record {
      small = omega (arith, second, bound, a, held, size);
      ready = omega (arith, first, bound, a, b, c, held, size);
    }
