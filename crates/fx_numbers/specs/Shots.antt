-- Snapshots, and what a part has.
use Rattle.std.specs.Prelude.{ℕ, List, map, Option, option_map, refl}
use Rattle.std.specs.Coded.{Coded, code_by, coded×, coded_ℕ, coded_list, coded_option}
use Rattle.fx_item.specs.Item.{PlainItem}
use Rattle.fx_layerset.specs.Levels.{SetLevels, item_lists, newest_first}
use Rattle.fx_parts.specs.Parts.{Part, Reservation, TakenSnapshot}
use Rattle.fx_numbers.specs.Held.{KeyGrants}
use Rattle.fx_numbers.specs.declared.given.Given.{Given}

-- the number of the last commit when it was taken, and the levels then
pub record Shot : Type 0 where
  pub point : ℕ
  pub levels : SetLevels

abbrev pub taken_of : Shot → TakenSnapshot
taken_of shot = record { point = shot.point; lists = item_lists (newest_first shot.levels) }

-- what was reserved, as plain data
abbrev pub reservation_of : Given → Reservation
reservation_of given = record {
  need = given.need;
  bytes = given.bytes;
  id = given.id;
  store = given.store;
}

abbrev pub part_from : KeyGrants → List Shot → Option Given → (last faults : ℕ) → Part
part_from keys shots given last faults = record {
  grants = keys.grants;
  room = keys.room;
  snapshots = map taken_of shots;
  reserved = option_map reservation_of given;
  last = last;
  faults = faults;
}

abbrev pub taken_code : Coded (List PlainItem) → Coded TakenSnapshot
taken_code items =
    code_by (ℕ × List (List PlainItem)) (coded× coded_ℕ (coded_list items))
    (λ t. (t.point, t.lists)) (λ p. record { point = p.0; lists = p.1 }) (λ _. refl)

abbrev pub reservation_code : Coded Given → Coded Reservation
reservation_code given =
    code_by Given given
    (λ r. record { need = r.need; bytes = r.bytes; id = r.id; store = r.store }) reservation_of
    (λ _. refl)

abbrev pub part_code : Coded KeyGrants → Coded (List PlainItem) → Coded Given → Coded Part
part_code keys items given =
    code_by (KeyGrants × (List TakenSnapshot × (Option Reservation × (ℕ × ℕ))))
    (coded× keys (coded× (coded_list (taken_code items))
    (coded× (coded_option (reservation_code given)) (coded× coded_ℕ coded_ℕ))))
    (λ p. (
      record { grants = p.grants; room = p.room },
      (p.snapshots, (p.reserved, (p.last, p.faults))),
    ))
    (λ t. record {
      grants = t.0.grants;
      room = t.0.room;
      snapshots = t.1.0;
      reserved = t.1.1.0;
      last = t.1.1.1.0;
      faults = t.1.1.1.1;
    })
    (λ _. refl)
