-- The key table agrees with the parts, after one part was set anew or taken away.
use Rattle.std.proofs.Common.{◌≡◌, ◌≢◌, ◌⊎◌, inl, inr, ℕ, ◌+◌, ◌-◌, true, cond, not, Option, Some, None, refl, sym, ap, ◌∙◌, arith, eq-eqb}
use Rattle.std.specs.Prelude.{option_and_then, option_map, unwrap_or}
use Rattle.std.specs.FinMap as finite
use Rattle.std.specs.FinMap.{FinMap, get-empty}
use Rattle.std.specs.Ordering.{nat_cmp}
use Rattle.std.proofs.lemmas.Bool.{cases_eq}
use Rattle.fx_item.specs.LockKey as lock
use Rattle.fx_item.specs.declared.lock.LockKey.{LockKey}
use Rattle.fx_item.specs.declared.lock.Mode.{Mode}
use Rattle.fx_item.specs.declared.lock.Mode.TheVariants.{Share, Change, Write, Read}
use Rattle.fx_keys.specs.Conflict.{are_conflicting}
use Rattle.fx_keys.specs.Table.{GainsRoom, Gains, HoldsOff, IsConsistent, Leaves, Reads, Rises, Table, mode_of, room_of}
use Rattle.fx_keys.proofs.Orders.{get-insert_same, get-insert_other, get-left, get-left_other, hold_total, keys_apart, same_or_not}
use Rattle.fx_keys.proofs.KeyTables.{granted_consistent, left_consistent, same_consistent}
use Rattle.fx_parts.specs.Parts.{Grant, Part}
use Rattle.fx_parts.specs.Sound.{KeysAgree}
use Rattle.fx_parts.proofs.Maps.{get_same, get_other, gone_same, gone_other, key_same, key_other}

abbrev pub mode_in_part : Part → LockKey → Option Mode
mode_in_part part key = option_map (λ (grant : Grant). grant.mode) (finite.get part.grants key)

abbrev pub mode_by_entry : LockKey → Option Part → Option Mode
mode_by_entry key o = option_and_then (λ (part : Part). option_map (λ (grant : Grant). grant.mode) (finite.get part.grants key)) o

abbrev pub room_by_entry : Option Part → ℕ
room_by_entry o = elim o [ Some part ↦ part.room | None ↦ 0 ]

nothing_held : (key : LockKey) → option_map (λ (grant : Grant). grant.mode) (finite.get (finite.empty {K = LockKey} {X = Grant} {R = lock.key_cmp}) key) ≡ None
nothing_held key = ap (option_map (λ (grant : Grant). grant.mode)) (get-empty lock.key_cmp key)

-- the part of who has become this one
pub keys_set : (t u : Table) (parts : FinMap nat_cmp Part) (who : ℕ) (part : Part) → KeysAgree t parts
    → ((key : LockKey) → mode_of u who key ≡ mode_in_part part key) → ((w : ℕ) → w ≢ who → (key : LockKey) → mode_of u w key ≡ mode_of t w key)
    → room_of u who ≡ part.room → ((w : ℕ) → w ≢ who → room_of u w ≡ room_of t w) → IsConsistent u → KeysAgree u (finite.insert parts who part)
keys_set t u parts who part a mine others room rooms consistent = record {
  held = λ w key. elim (cases_eq w who) [
    | inl e ↦ ap (λ z. mode_of u z key) e ∙ mine key ∙ sym (ap (mode_by_entry key) (get_same parts who part)) ∙ sym (ap (λ z. mode_by_entry key (finite.get (finite.insert parts who part) z)) e)
    | inr ne ↦ others w ne key ∙ a.held w key ∙ sym (ap (mode_by_entry key) (get_other parts who w part ne))
  ];
  rooms = λ w. elim (cases_eq w who) [
    | inl e ↦ ap (room_of u) e ∙ room ∙ sym (ap room_by_entry (get_same parts who part)) ∙ sym (ap (λ z. room_by_entry (finite.get (finite.insert parts who part) z)) e)
    | inr ne ↦ rooms w ne ∙ a.rooms w ∙ sym (ap room_by_entry (get_other parts who w part ne))
  ];
  consistent = consistent;
}

module _ (t : Table) (parts : FinMap nat_cmp Part) (who : ℕ) (a : KeysAgree t parts) where
  -- who's part holds the same keys, and has the same room
  pub keys_kept : (old part : Part) → finite.get parts who ≡ Some old → part.grants ≡ old.grants → part.room ≡ old.room → KeysAgree t (finite.insert parts who part)
  keys_kept old part is grants room =
      keys_set t t parts who part a
      (λ key. a.held who key ∙ ap (mode_by_entry key) is ∙ sym (ap (λ g. option_map (λ (grant : Grant). grant.mode) (finite.get g key)) grants))
      (λ w ne key. refl)
      (a.rooms who ∙ ap room_by_entry is ∙ sym room)
      (λ w ne. refl)
      a.consistent

  -- who comes into use
  pub keys_enter : (part : Part) → finite.get parts who ≡ None → part.grants ≡ finite.empty → part.room ≡ 0 → KeysAgree t (finite.insert parts who part)
  keys_enter part free grants room =
      keys_set t t parts who part a
      (λ key. a.held who key ∙ ap (mode_by_entry key) free ∙ sym (nothing_held key) ∙ sym (ap (λ g. option_map (λ (grant : Grant). grant.mode) (finite.get g key)) grants))
      (λ w ne key. refl)
      (a.rooms who ∙ ap room_by_entry free ∙ sym room)
      (λ w ne. refl)
      a.consistent

  -- who leaves, and holds nothing
  pub keys_leave : (old : Part) → finite.get parts who ≡ Some old → old.grants ≡ finite.empty → old.room ≡ 0 → KeysAgree t (finite.remove parts who)
  keys_leave old is grants room = record {
    held = λ w key. elim (cases_eq w who) [
      | inl e ↦ ap (λ z. mode_of t z key) e ∙ a.held who key ∙ ap (mode_by_entry key) is ∙ ap (λ g. option_map (λ (grant : Grant). grant.mode) (finite.get g key)) grants ∙ nothing_held key
          ∙ sym (ap (mode_by_entry key) (gone_same parts who)) ∙ sym (ap (λ z. mode_by_entry key (finite.get (finite.remove parts who) z)) e)
      | inr ne ↦ a.held w key ∙ sym (ap (mode_by_entry key) (gone_other parts who w ne))
    ];
    rooms = λ w. elim (cases_eq w who) [
      | inl e ↦ ap (room_of t) e ∙ a.rooms who ∙ ap room_by_entry is ∙ room
          ∙ sym (ap room_by_entry (gone_same parts who)) ∙ sym (ap (λ z. room_by_entry (finite.get (finite.remove parts who) z)) e)
      | inr ne ↦ a.rooms w ∙ sym (ap room_by_entry (gone_other parts who w ne))
    ];
    consistent = a.consistent;
  }

  module _ (u : Table) (old part : Part) (is : finite.get parts who ≡ Some old) where
    mine : (key : LockKey) → mode_of t who key ≡ mode_in_part old key
    mine key = a.held who key ∙ ap (mode_by_entry key) is

    room_mine : room_of t who ≡ old.room
    room_mine = a.rooms who ∙ ap room_by_entry is

    pub keys_room : (count : ℕ) → GainsRoom t u who count → part.grants ≡ old.grants → part.room ≡ old.room + count → KeysAgree u (finite.insert parts who part)
    keys_room count g grants room =
        keys_set t u parts who part a
        (λ key. ap (λ h. finite.get h (key, who)) g.holds ∙ mine key ∙ sym (ap (λ z. option_map (λ (grant : Grant). grant.mode) (finite.get z key)) grants))
        (λ w ne key. ap (λ h. finite.get h (key, w)) g.holds)
        (g.room ∙ ap (λ n. n + count) room_mine ∙ sym room)
        g.others
        (same_consistent t u a.consistent g.holds)

    -- a key of who has become of this mode
    mode_set : (key : LockKey) (mode : Mode) → u.holds ≡ finite.insert t.holds (key, who) mode → (q : LockKey) → mode_of u who q ≡ elim (same_or_not q key) [ inl e ↦ Some mode | inr ne ↦ mode_of t who q ]
    mode_set key mode is q = by (same_or_not q key)
      where
        by : (c : (q ≡ key) ⊎ (q ≢ key)) → mode_of u who q ≡ elim c [ inl e ↦ Some mode | inr ne ↦ mode_of t who q ]
        by (inl e) = ap (λ h. finite.get h (q, who)) is ∙ ap (λ z. finite.get (finite.insert t.holds (key, who) mode) (z, who)) e ∙ get-insert_same t.holds (key, who) mode
        by (inr ne) = ap (λ h. finite.get h (q, who)) is ∙ finite.get-insert hold_total t.holds (key, who) mode (q, who) ∙ ap (λ b. cond b (Some mode) (mode_of t who q)) (keys_apart q key who who ne)

    grant_set : (key : LockKey) (grant : Grant) → part.grants ≡ finite.insert old.grants key grant → (q : LockKey) → mode_in_part part q ≡ elim (same_or_not q key) [ inl e ↦ Some grant.mode | inr ne ↦ mode_in_part old q ]
    grant_set key grant set q = by (same_or_not q key)
      where
        modes : Option Grant → Option Mode
        modes = option_map (λ (grant : Grant). grant.mode)

        by : (c : (q ≡ key) ⊎ (q ≢ key)) → mode_in_part part q ≡ elim c [ inl e ↦ Some grant.mode | inr ne ↦ mode_in_part old q ]
        by (inl e) = ap (λ z. modes (finite.get z q)) set ∙ ap (λ z. modes (finite.get (finite.insert old.grants key grant) z)) e ∙ ap modes (key_same old.grants key grant)
        by (inr ne) = ap (λ z. modes (finite.get z q)) set ∙ ap modes (key_other old.grants key q grant ne)

    pick : (key q : LockKey) (mode : Mode) (c : (q ≡ key) ⊎ (q ≢ key)) → (let a : Option Mode = elim c [ inl e ↦ Some mode | inr ne ↦ mode_of t who q ] in a) ≡ elim c [ inl e ↦ Some mode | inr ne ↦ mode_in_part old q ]
    pick key q mode (inl e) = refl
    pick key q mode (inr ne) = mine q

    set_mine : (key : LockKey) (mode : Mode) (number : ℕ) → u.holds ≡ finite.insert t.holds (key, who) mode → part.grants ≡ finite.insert old.grants key (record { mode = mode; number = number }) → (q : LockKey) → mode_of u who q ≡ mode_in_part part q
    set_mine key mode number is set q = mode_set key mode is q ∙ pick key q mode (same_or_not q key) ∙ sym (grant_set key (record { mode = mode; number = number }) set q)

    set_others : (key : LockKey) (mode : Mode) → u.holds ≡ finite.insert t.holds (key, who) mode → (w : ℕ) → w ≢ who → (q : LockKey) → mode_of u w q ≡ mode_of t w q
    set_others key mode is w ne q = ap (λ h. finite.get h (q, w)) is ∙ get-insert_other t.holds key who mode q w ne

    pub keys_ask : (key : LockKey) (mode : Mode) (number : ℕ) → ((w : ℕ) → ¬ (HoldsOff t who key mode w)) → Gains t u who key mode
        → part.grants ≡ finite.insert old.grants key (record { mode = mode; number = number }) → part.room ≡ old.room - 1 → KeysAgree u (finite.insert parts who part)
    keys_ask key mode number free g set room =
        keys_set t u parts who part a (set_mine key mode number g.holds set) (set_others key mode g.holds)
        (omega (arith, g.room, room_mine, room)) g.others (granted_consistent t u who key mode a.consistent free g.holds)

    pub keys_raise : (key : LockKey) (grant : Grant) → finite.get old.grants key ≡ Some grant → grant.mode ≡ Change → ((w : ℕ) → ¬ (Reads t who key w)) → Rises t u who key
        → part.grants ≡ finite.insert old.grants key (record { mode = Write; number = grant.number }) → part.room ≡ old.room → KeysAgree u (finite.insert parts who part)
    keys_raise key grant held change free g set room =
        keys_set t u parts who part a (set_mine key Write grant.number g.holds set) (set_others key Write g.holds)
        (ap (λ r. unwrap_or (finite.get r who) 0) g.rooms ∙ room_mine ∙ sym room)
        (λ w ne. ap (λ r. unwrap_or (finite.get r w) 0) g.rooms)
        (granted_consistent t u who key Write a.consistent none g.holds)
      where
        only : (m : Mode) → are_conflicting m Change ≢ true → m ≡ Read
        only Share none = absurd (none refl)
        only Change none = absurd (none refl)
        only Write none = absurd (none refl)
        only Read none = refl

        holds_change : mode_of t who key ≡ Some Change
        holds_change = mine key ∙ ap (option_map (λ (grant : Grant). grant.mode)) held ∙ ap Some change

        none : (w : ℕ) → ¬ (HoldsOff t who key Write w)
        none w h = free w (record { apart = h.apart; holds = h.holds ∙ ap Some (only h.held (λ conflict. a.consistent key w who h.held Change h.apart h.holds holds_change conflict)) })

    pub keys_unlock : Leaves t u who → part.grants ≡ finite.empty → part.room ≡ 0 → KeysAgree u (finite.insert parts who part)
    keys_unlock g grants room =
        keys_set t u parts who part a
        (λ key. ap (λ h. finite.get h (key, who)) g.holds ∙ get-left t.holds who (key, who) ∙ ap (λ b. cond (not b) (mode_of t who key) None) (eq-eqb who who refl)
        ∙ sym (nothing_held key) ∙ sym (ap (λ z. option_map (λ (grant : Grant). grant.mode) (finite.get z key)) grants))
        (λ w ne key. ap (λ h. finite.get h (key, w)) g.holds ∙ get-left_other t.holds who key w ne)
        (ap (λ r. unwrap_or (finite.get r who) 0) g.rooms ∙ ap (λ o. unwrap_or o 0) (gone_same t.rooms who) ∙ sym room)
        (λ w ne. ap (λ r. unwrap_or (finite.get r w) 0) g.rooms ∙ ap (λ o. unwrap_or o 0) (gone_other t.rooms who w ne))
        (left_consistent t u who g a.consistent)
