-- What is found first in an overlay of two, from what is found first in each.
use Rattle.std.proofs.Common.{◌≡◌, ◌||◌, Bool, true, false, Option, Some, None, refl, sym, ◌∙◌, ap, subst, ◌⊎◌, inl, inr}
use Rattle.std.specs.List.{Contains}
use Rattle.std.specs.Ordering.{is_le}
use Rattle.fx_item.specs.Item.{PlainItem, IsItem}
use Rattle.fx_item.specs.Place.{Place, place_cmp, Upto, Below, begins, ends}
use Rattle.fx_item.specs.Overlay.{Point, Entry, Said, at, or_older, over}
use Rattle.fx_item.specs.Look.{IsFirstFrom, FindsFrom}
use Rattle.fx_item.specs.Meeting.{IsPiece}
use Rattle.fx_merge.specs.Choice.{ComesFirst, leads_at}
use Rattle.fx_item.proofs.PlaceOrder.{not_both, below_then, upto_then, upto_upto, below_below, below_upto, upto_itself, le_upto, not_le_below}
use Rattle.fx_item.proofs.Between.{not_empty}
use Rattle.fx_item.proofs.Covered.{entry_at, covers_upto, covers_below, lies_covers}

-- an overlay where the newer says something, and where it says nothing
pub over_said : (m n : Said) (p : Point) (e : Option Entry) → m p ≡ Some e → over m n p ≡ Some e
over_said m n p e h = ap (λ o. or_older o (n p)) h

pub over_unsaid : (m n : Said) (p : Point) → m p ≡ None → over m n p ≡ n p
over_unsaid m n p h = ap (λ o. or_older o (n p)) h

-- a piece is not empty
begins_before : {x : PlainItem} {from : Place} (piece : PlainItem) (stop : Place) → IsPiece x piece from stop → Below from stop
begins_before {x} {from} piece stop q = subst (λ b. Below b stop) q.begin (subst (λ e. Below (begins piece.key) e) q.end (not_empty piece.key q.good.key))

module _ (m n : Said) (from : Place) where
  pub neither_first : FindsFrom m from None → FindsFrom n from None → FindsFrom (over m n) from None
  neither_first f g p up = over_unsaid m n p (f p up) ∙ g p up

  pub only_newer : (h : PlainItem) → IsFirstFrom m from h → FindsFrom n from None → IsFirstFrom (over m n) from h
  only_newer h f g = record {
    good = f.good;
    reaches = f.reaches;
    stands = λ p up c. over_said m n p (entry_at h p) (f.stands p up c);
    first = λ p up b. over_unsaid m n p (f.first p up b) ∙ g p up;
  }

  pub only_older : (x : PlainItem) → FindsFrom m from None → IsFirstFrom n from x → IsFirstFrom (over m n) from x
  only_older x f g = record {
    good = g.good;
    reaches = g.reaches;
    stands = λ p up c. over_unsaid m n p (f p up) ∙ g.stands p up c;
    first = λ p up b. over_unsaid m n p (f p up) ∙ g.first p up b;
  }

  module _ (h x : PlainItem) (f : IsFirstFrom m from h) (g : IsFirstFrom n from x) where
    -- the newer one begins no later
    pub newer_first : Upto (begins h.key) (begins x.key) → IsFirstFrom (over m n) from h
    newer_first le = record {
      good = f.good;
      reaches = f.reaches;
      stands = λ p up c. over_said m n p (entry_at h p) (f.stands p up c);
      first = λ p up b. over_unsaid m n p (f.first p up b) ∙ g.first p up (below_then b le);
    }

    -- the older one begins before, and this piece of it ends before the newer one begins
    pub older_first : (piece : PlainItem) (stop : Place) → IsPiece x piece (begins x.key) stop → Upto stop (ends x.key) → Upto stop (begins h.key) → Below from stop
        → IsFirstFrom (over m n) from piece
    older_first piece stop q in_x le up_to = record {
      good = q.good;
      reaches = subst (λ e. Below from e) (sym q.end) up_to;
      stands = λ p up c.
          let low : Upto (begins x.key) (at p) = subst (λ e. Upto e (at p)) q.begin (covers_upto piece.key p c) in
          let high : Below (at p) stop = subst (λ e. Below (at p) e) q.end (covers_below piece.key p c) in
          over_unsaid m n p (f.first p up (below_then high le)) ∙ g.stands p up (lies_covers x.key p low (below_then high in_x)) ∙ ap Some (sym (q.same p c));
      first = λ p up b.
          let low : Below (at p) (begins x.key) = subst (λ e. Below (at p) e) q.begin b in
          over_unsaid m n p (f.first p up (below_then low (upto_upto (below_upto (begins_before piece stop q)) le))) ∙ g.first p up low;
    }

  -- the newer one covers the place itself
  pub newer_reached : (h : PlainItem) → IsFirstFrom m from h → Upto (begins h.key) from → IsFirstFrom (over m n) from h
  newer_reached h f le = record {
    good = f.good;
    reaches = f.reaches;
    stands = λ p up c. over_said m n p (entry_at h p) (f.stands p up c);
    first = λ p up b. absurd (not_both b (upto_upto le up));
  }

-- ---- the cases of two items that meet

or_parts : (a b : Bool) → (a || b) ≡ true → (a ≡ true) ⊎ (b ≡ true)
or_parts true b h = inl refl
or_parts false b h = inr h

or_neither : (a b : Bool) → (a || b) ≡ false → (a ≡ false) × (b ≡ false)
or_neither true b h = absurd (cc h)
or_neither false b h = (refl, h)

whole : (x : PlainItem) → IsItem x → IsPiece x x (begins x.key) (ends x.key)
whole x g = record { good = g; begin = refl; end = refl; same = λ p c. refl }

module _ (place : Place) where
  pub none_newer : (older : Option PlainItem) → ComesFirst place None older older
  none_newer None = record { first = λ m n f g. neither_first m n place f g; edges = λ es a b. b }
  none_newer (Some x) = record { first = λ m n f g. only_older m n place x f g; edges = λ es a b. b }

  pub none_older : (h : PlainItem) → ComesFirst place (Some h) None (Some h)
  none_older h = record { first = λ m n f g. only_newer m n place h f g; edges = λ es a b. a }

  module _ (h x : PlainItem) (gh : IsItem h) (gx : IsItem x) where
    newer_comes : Upto (begins h.key) (begins x.key) → ComesFirst place (Some h) (Some x) (Some h)
    newer_comes le = record { first = λ m n f g. newer_first m n place h x f g le; edges = λ es a b. a }

    newer_stands : Upto (begins h.key) place → ComesFirst place (Some h) (Some x) (Some h)
    newer_stands le = record { first = λ m n f g. newer_reached m n place h f le; edges = λ es a b. a }

    pub leader_comes : (t : Bool) → t ≡ true → t ≡ leads_at place h.key x.key → ComesFirst place (Some h) (Some x) (Some h)
    leader_comes t a b = elim (or_parts (is_le (place_cmp (begins h.key) (begins x.key))) (is_le (place_cmp (begins h.key) place)) (sym b ∙ a)) [
      | inl e ↦ newer_comes (le_upto e)
      | inr e ↦ newer_stands (le_upto e)
    ]

    -- where the newer one does not lead
    module _ (t : Bool) (a : t ≡ false) (b : t ≡ leads_at place h.key x.key) where
      tests : (is_le (place_cmp (begins h.key) (begins x.key)) ≡ false) × (is_le (place_cmp (begins h.key) place) ≡ false)
      tests = or_neither (is_le (place_cmp (begins h.key) (begins x.key))) (is_le (place_cmp (begins h.key) place)) (sym b ∙ a)

      behind : Below (begins x.key) (begins h.key)
      behind = not_le_below tests.0

      past : Below place (begins h.key)
      past = not_le_below tests.1

      pub apart_comes : (Upto (ends h.key) (begins x.key) ⊎ Upto (ends x.key) (begins h.key)) → ComesFirst place (Some h) (Some x) (Some x)
      apart_comes (inl e) = absurd (not_both (below_below (not_empty h.key gh.key) (upto_then e behind)) (upto_itself (begins h.key)))
      apart_comes (inr e) = record {
        first = λ m n f g. older_first m n place h x f g x (ends x.key) (whole x gx) (upto_itself (ends x.key)) e g.reaches;
        edges = λ es a b. b;
      }

      pub not_hidden : Upto (begins h.key) (begins x.key) → ⊥
      not_hidden e = not_both behind e

      pub left_comes : (l : PlainItem) → IsPiece x l (begins x.key) (begins h.key) → Below (begins h.key) (ends x.key) → ComesFirst place (Some h) (Some x) (Some l)
      left_comes l q in_x = record {
        first = λ m n f g. older_first m n place h x f g l (begins h.key) q (below_upto in_x) (upto_itself (begins h.key)) past;
        edges = λ es a b. (
          subst (λ z. Below place z → Contains es z) (sym q.begin) b.0,
          subst (λ z. Below place z → Contains es z) (sym q.end) a.0,
        );
      }
