-- Which byte strings may name a node, and their order.
use Rattle.std.specs.Prelude.{ℕ, ◌&&◌, ◌==◌, not, Bool, List, length, nat_eq, nat_lt, nat_le, codes}
use Rattle.std.specs.Cmp.Lexicographic.{pointwise, slice_cmp}
use Rattle.std.specs.List.{list_any}
use Rattle.std.specs.Ordering.{nat_cmp}
use Rattle.std.specs.Str.{is_utf8}
use Rattle.std.specs.declared.cmp.Ordering.{Ordering}
use Rattle.fx_item.specs.declared.name.TheConstants.{MAX_NAME}

-- in the order of their bytes
abbrev pub name_cmp : List ℕ → List ℕ → Ordering
name_cmp = slice_cmp nat_cmp

-- the byte stands in the text
abbrev pub has_byte : ℕ → List ℕ → Bool
has_byte b text = list_any (λ x. x == b) text

-- 1 to 255 bytes of UTF-8 with no `/` and no NUL, and neither `.` nor `..`
abbrev pub is_name : List ℕ → Bool
is_name name =
    nat_lt 0 (length name) && nat_le (length name) MAX_NAME
    && not (has_byte 47 name) && not (has_byte 0 name)
    && not (pointwise nat_eq name (codes ".")) && not (pointwise nat_eq name (codes ".."))
    && is_utf8 name
