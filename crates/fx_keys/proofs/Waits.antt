-- No numbers wait in a circle: each waits for one that asks for a greater key.
use Rattle.std.proofs.Common.{◌≡◌, ◌≢◌, ℕ, true, false, cond, ◌==◌, List, [], ◌∷◌, Option, Some, None, Less, refl, sym, ap, ◌∙◌, subst, eqb-true}
use Rattle.std.proofs.lemmas.Bool.{eqb-false}
use Rattle.std.specs.FinMap as map
use Rattle.fx_item.specs.declared.lock.LockKey.{LockKey}
use Rattle.fx_item.specs.declared.lock.Mode.{Mode}
use Rattle.fx_keys.specs.declared.table.Asked.TheVariants.{Held, Busy}
use Rattle.fx_item.specs.LockKey.{key_cmp}
use Rattle.fx_keys.specs.Table.{Table, mode_of, IsAboveKeysOf}
use Rattle.fx_keys.specs.Waiting.{KeyCall, Room, Ask, Raise, DropAll, caller_of, MayBeMade, Did, IsNoReader, IsDisciplined, Reaches, Request, ToHold, ToWrite, refused_request, request_of, IsInTheWay, IsChain}
use Rattle.fx_item.proofs.KeyOrder.{lock_keys_total}
use Rattle.fx_keys.proofs.Orders.{key_irreflexive, get-insert_other, get-left_other}

-- what is so of a number that waits: it does not read, and asks above its keys
abbrev pub IsOrderly : Table → ℕ → Option Request → Type 0
IsOrderly table who None = Unit {0}
IsOrderly table who (Some (ToHold key mode)) = IsAboveKeysOf table who key × IsNoReader table who
IsOrderly table who (Some (ToWrite key)) = IsNoReader table who

-- a call changes no hold of another number
keeps_others : (old : Table) (call : KeyCall) (new : Table) → Did old call new → (w : ℕ) → w ≢ caller_of call → (k : LockKey) → mode_of new w k ≡ mode_of old w k
keeps_others old (Room who count) new did w ne k = ap (λ m. map.get m (k, w)) did.holds
keeps_others old (Ask who key mode Held) new did w ne k = ap (λ m. map.get m (k, w)) did.1.holds ∙ get-insert_other old.holds key who mode k w ne
keeps_others old (Ask who key mode (Busy v)) new did w ne k = ap (λ t. mode_of t w k) did.1
keeps_others old (Raise who key Held) new did w ne k = ap (λ m. map.get m (k, w)) did.1.holds ∙ get-insert_other old.holds key who _ k w ne
keeps_others old (Raise who key (Busy v)) new did w ne k = ap (λ t. mode_of t w k) did.1
keeps_others old (DropAll who) new did w ne k = ap (λ m. map.get m (k, w)) did.holds ∙ get-left_other old.holds who k w ne

stays_orderly : (old new : Table) (w : ℕ) (r : Option Request) → ((k : LockKey) → mode_of new w k ≡ mode_of old w k) → IsOrderly old w r → IsOrderly new w r
stays_orderly old new w None same h = tt
stays_orderly old new w (Some (ToHold key mode)) same h = (λ k m is. h.0 k m (sym (same k) ∙ is), λ k is. h.1 k (sym (same k) ∙ is))
stays_orderly old new w (Some (ToWrite key)) same h = λ k is. h k (sym (same k) ∙ is)

-- the call that was refused was orderly
refused_orderly : (old : Table) (call : KeyCall) (new : Table) → MayBeMade old call → IsDisciplined old call → Did old call new → IsOrderly new (caller_of call) (refused_request call)
refused_orderly old (Room who count) new may fair did = tt
refused_orderly old (Ask who key mode Held) new may fair did = tt
refused_orderly old (Ask who key mode (Busy v)) new may fair did = stays_orderly old new who (Some (ToHold key mode)) (λ k. ap (λ t. mode_of t who k) did.1) (may.2, fair)
refused_orderly old (Raise who key Held) new may fair did = tt
refused_orderly old (Raise who key (Busy v)) new may fair did = stays_orderly old new who (Some (ToWrite key)) (λ k. ap (λ t. mode_of t who k) did.1) fair
refused_orderly old (DropAll who) new may fair did = tt

orderly : (calls : List KeyCall) (table : Table) → Reaches calls table → (w : ℕ) → IsOrderly table w (request_of calls w)
orderly [] table r w = tt
orderly (call ∷ calls) table (before, r, may, fair, did) w =
    elim (caller_of call == w) as (λ b. (caller_of call == w) ≡ b → IsOrderly table w (cond b (refused_request call) (request_of calls w))) [
      | true ↦ λ e. subst (λ v. IsOrderly table v (refused_request call)) (eqb-true (caller_of call) w e) (refused_orderly before call table may fair did)
      | false ↦ λ e. stays_orderly before table w (request_of calls w) (keeps_others before call table did w (λ same. eqb-false (caller_of call) w e (sym same))) (orderly calls before r w)
    ] refl

-- what a number in the way of a request does if it waits too: the request is for a key, and its own for a greater one
pub record IsBelow (r s : Option Request) : Type 0 where
  pub key : LockKey
  pub mode : Mode
  pub asks : r ≡ Some (ToHold key mode)
  pub below : (k : LockKey) (m : Mode) → s ≡ Some (ToHold k m) → key_cmp key k ≡ Less

no_reader : (table : Table) (w : ℕ) (r : Request) → IsOrderly table w (Some r) → IsNoReader table w
no_reader table w (ToHold key mode) h = h.1
no_reader table w (ToWrite key) h = h

above : (table : Table) (w : ℕ) (s : Option Request) (k : LockKey) (m : Mode) → s ≡ Some (ToHold k m) → IsOrderly table w s → IsAboveKeysOf table w k
above table w s k m e h = let at : IsOrderly table w (Some (ToHold k m)) = subst (IsOrderly table w) e h in at.0

one_step : (table : Table) (w : ℕ) (r : Option Request) (v : ℕ) (s : Option Request) (waits : Request) → s ≡ Some waits → IsOrderly table v s → IsInTheWay table w r v → IsBelow r s
one_step table w None v s waits is h there = absurd there
one_step table w (Some (ToHold key mode)) v s waits is h there = record {
  key = key;
  mode = mode;
  asks = refl;
  below = λ k m e. above table v s k m e h key there.held there.holds;
}
one_step table w (Some (ToWrite key)) v s waits is h there = absurd (no_reader table v waits (subst (IsOrderly table v) is h) key there.holds)

waiting : (table : Table) (w : ℕ) (r : Option Request) (v : ℕ) → IsInTheWay table w r v → (q : Request) × (r ≡ Some q)
waiting table w None v there = absurd there
waiting table w (Some q) v there = (q, refl)

first_waits : (calls : List KeyCall) (table : Table) (w : ℕ) (us : List ℕ) (v : ℕ) → IsChain calls table w us v → (q : Request) × (request_of calls w ≡ Some q)
first_waits calls table w [] v chain = waiting table w (request_of calls w) v chain
first_waits calls table w (u ∷ us) v chain = waiting table w (request_of calls w) u chain.0

along : (calls : List KeyCall) (table : Table) → Reaches calls table → (w : ℕ) (us : List ℕ) (v : ℕ) (q : Request) → request_of calls v ≡ Some q → IsChain calls table w us v → IsBelow (request_of calls w) (request_of calls v)
along calls table r w [] v q is chain = one_step table w (request_of calls w) v (request_of calls v) q is (orderly calls table r v) chain
along calls table r w (u ∷ us) v q is (there, chain) =
    let rest = along calls table r u us v q is chain in
    let step = one_step table w (request_of calls w) u (request_of calls u) (ToHold rest.key rest.mode) rest.asks (orderly calls table r u) there in
    record {
      key = step.key;
      mode = step.mode;
      asks = step.asks;
      below = λ k m e. lock_keys_total.trans step.key rest.key k (step.below rest.key rest.mode rest.asks) (rest.below k m e);
    }

pub no_cycle : (calls : List KeyCall) (table : Table) → Reaches calls table → (who : ℕ) (others : List ℕ) → ¬ (IsChain calls table who others who)
no_cycle calls table r who others chain =
    let q = first_waits calls table who others who chain in
    let around = along calls table r who others who q.0 q.1 chain in
    key_irreflexive around.key (around.below around.key around.mode around.asks)
