-- What contracts see of a turn, of a pass, and of a turn that is held.
use Rattle.std.specs.Prelude.{ℕ, List, refl}
use Rattle.std.specs.Coded.{Coded, code_by, coded×, coded_list, coded_ℕ}
use Rattle.std.specs.FinMap.{code}
use Rattle.atomic_table.specs.Seated.{TableId, table_id_coded}
use Rattle.fx_turn.specs.Parts.{Parts}

-- which turn it is, and with how many shares it was made
pub record TurnState : Type 0 where
  pub id : TableId
  pub shares : ℕ

abbrev pub turn_code : Coded TurnState
turn_code = code_by (TableId × ℕ) (coded× table_id_coded coded_ℕ) (λ t. (t.id, t.shares))
    (λ c. record { id = c.0; shares = c.1 }) (λ _. refl)

-- The turn that the pass is of; the log, as far as it was seen; how many counted notes were added under this pass; its shares; and the parts that are its own
pub record PassState (N P : Type 0) : Type 0 where
  pub turn : TableId
  pub seen : List N
  pub own : ℕ
  pub shares : ℕ
  pub mine : Parts P

abbrev pub pass_code : {N P : Type 0} → Coded N → Coded P → Coded (PassState N P)
pass_code {N} {P} n p = code_by (TableId × (List N × (ℕ × (ℕ × Parts P))))
    (coded× table_id_coded (coded× (coded_list n)
    (coded× coded_ℕ (coded× coded_ℕ (code coded_ℕ p)))))
    (λ k. (k.turn, (k.seen, (k.own, (k.shares, k.mine)))))
    (λ c. record { turn = c.0; seen = c.1.0; own = c.1.1.0; shares = c.1.1.1.0; mine = c.1.1.1.1 })
    (λ _. refl)

-- the pass that was handed in, and the value's log and parts as it was taken
pub record HeldState (N P : Type 0) : Type 0 where
  pub pass : PassState N P
  pub log : List N
  pub parts : Parts P

abbrev pub held_code : {N P : Type 0} → Coded N → Coded P → Coded (HeldState N P)
held_code {N} {P} n p = code_by (PassState N P × (List N × Parts P))
    (coded× (pass_code n p) (coded× (coded_list n) (code coded_ℕ p)))
    (λ h. (h.pass, (h.log, h.parts)))
    (λ c. record { pass = c.0; log = c.1.0; parts = c.1.1 }) (λ _. refl)
