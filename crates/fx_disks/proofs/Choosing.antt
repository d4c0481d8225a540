-- What picks name, one after another.
use Rattle.std.proofs.Common.{◌≡◌, ◌≢◌, ℕ, zero, suc, ◌+◌, ◌≤◌, ◌<◌, ◌==◌, if◌then◌else◌, List, [], ◌∷◌, ◌++◌, length, take, get_or, slice_set, replicate, eq-eqb, refl, subst, sym, ◌∙◌, ap, arith, ⊎_elim, ◌⊎◌, inl, inr, Bool, true, false, Option, Some, None}
use Rattle.std.specs.List.{All, AllPairs}
use Rattle.std.proofs.lemmas.List.{length-set, get_or-set_other, get_or-set_same, get_or-replicate, length-replicate, length-take, get_or-take, get_or_default}
use Rattle.std.proofs.lemmas.List.Elements.{All-push, All-nil, All-get_or}
use Rattle.std.proofs.lemmas.List.Quantifiers.{all_pairs_push}
use Rattle.std.proofs.Math.Seq.{take-suc}
use Rattle.std.proofs.lemmas.Bool.Decides.{eqb_tells}
use Rattle.fx_disk.specs.Record.{Call, DiskRecord}
use Rattle.fx_disks.specs.Calls.{record_from}
use Rattle.fx_disks.specs.Picks.{IsPick, ArePicks, pick_of}
use Rattle.fx_disks.specs.Left.{Chooses, AreChosen, AreNoPicks}
use Rattle.fx_disks.specs.declared.pick.Pick.{Pick}
use Rattle.fx_disks.specs.declared.pick.Loose.{Loose}

-- a block without a pick
pub pick_of-free : (picks : List Pick) (b : ℕ) → pick_of picks b ≡ None → (k : ℕ) (d : Pick) → k < length picks → (get_or picks k d).block ≡ b → ⊥
pick_of-free [] b e k d lt = absurd (omega arith)
pick_of-free (p ∷ picks) b e zero d lt = λ same.
    let test : (p.block == b) ≡ true = eq-eqb p.block b same in
    let none : Some p.loose ≡ None = subst (λ (t : Bool). (if t then Some p.loose else pick_of picks b) ≡ None) test e in
    absurd (cc)
pick_of-free (p ∷ picks) b e (suc k) d lt = ⊎_elim
    (λ y. let none : Some p.loose ≡ None = subst (λ (t : Bool). (if t then Some p.loose else pick_of picks b) ≡ None) y.0 e in absurd (cc))
    (λ n. pick_of-free picks b (subst (λ (t : Bool). (if t then Some p.loose else pick_of picks b) ≡ None) n.0 e) k d (omega arith))
    (eqb_tells p.block b)

pub pick_of-none : (picks : List Pick) (b : ℕ) → ((k : ℕ) (d : Pick) → k < length picks → (get_or picks k d).block ≡ b → ⊥) → pick_of picks b ≡ None
pick_of-none [] b h = refl
pick_of-none (p ∷ picks) b h = ⊎_elim
    (λ y. absurd (h 0 p (omega arith) y.1))
    (λ n. subst (λ (t : Bool). (if t then Some p.loose else pick_of picks b) ≡ None) (sym n.0) (pick_of-none picks b (λ k d lt. h (suc k) d (omega arith))))
    (eqb_tells p.block b)

-- one more pick
pub pick_of-append_same : (picks : List Pick) (p : Pick) (b : ℕ) → p.block ≡ b → pick_of picks b ≡ None → pick_of (picks ++ p ∷ []) b ≡ Some p.loose
pick_of-append_same [] p b same e = ap (λ (t : Bool). if t then Some p.loose else None) (eq-eqb p.block b same)
pick_of-append_same (q ∷ picks) p b same e = ⊎_elim
    (λ y. let none : Some q.loose ≡ None = subst (λ (t : Bool). (if t then Some q.loose else pick_of picks b) ≡ None) y.0 e in absurd (cc))
    (λ n. subst (λ (t : Bool). (if t then Some q.loose else pick_of (picks ++ p ∷ []) b) ≡ Some p.loose) (sym n.0)
    (pick_of-append_same picks p b same (subst (λ (t : Bool). (if t then Some q.loose else pick_of picks b) ≡ None) n.0 e)))
    (eqb_tells q.block b)

pub pick_of-append_other : (picks : List Pick) (p : Pick) (b : ℕ) → (p.block ≡ b → ⊥) → pick_of (picks ++ p ∷ []) b ≡ pick_of picks b
pick_of-append_other [] p b other = ⊎_elim (λ y. absurd (other y.1)) (λ n. ap (λ (t : Bool). if t then Some p.loose else None) n.0) (eqb_tells p.block b)
pick_of-append_other (q ∷ picks) p b other = ap (λ (o : Option Loose). if q.block == b then Some q.loose else o) (pick_of-append_other picks p b other)

pub AreChosen-begin : (calls : List Call) (m n : ℕ) (chosen : List (Option Loose)) → chosen ≡ replicate n None → m ≤ length calls → AreChosen calls m chosen []
AreChosen-begin calls m n chosen e le = record {
  are_picks = λ entry _. record { moment = le; each = All-nil (IsPick (record_from entry calls) m); once = λ i j d lt below. absurd (omega arith) };
  choices = λ b lt. let lt' : b < n = omega (arith, ap length e, length-replicate {A = Option Loose} n None) in ap (λ (xs : List (Option Loose)). get_or xs b None) e ∙ get_or-replicate n b None None lt';
}

module _ (calls : List Call) (m : ℕ) (old new : List (Option Loose)) (pick : Pick) where
  choices-more : (taken : List Pick) → AreChosen calls m old taken → Chooses calls m old new pick true → pick_of taken pick.block ≡ None → (b : ℕ) → b < length new → get_or new b None ≡ pick_of (taken ++ pick ∷ []) b
  choices-more taken h c free b lt =
      let set : new ≡ slice_set old pick.block (Some pick.loose) = c.chosen refl in
      let lt' : b < length old = omega (arith, ap length set, length-set old pick.block (Some pick.loose)) in
      ap (λ (xs : List (Option Loose)). get_or xs b None) set
      ∙ ⊎_elim
      (λ y. subst (λ (k : ℕ). get_or (slice_set old k (Some pick.loose)) b None ≡ Some pick.loose) (sym y.1) (get_or-set_same old b (Some pick.loose) None lt') ∙ sym (pick_of-append_same taken pick b y.1 (subst (λ (k : ℕ). pick_of taken k ≡ None) y.1 free)))
      (λ n. let other : b ≢ pick.block = λ e. n.1 (sym e) in get_or-set_other old pick.block b (Some pick.loose) None other ∙ h.choices b lt' ∙ sym (pick_of-append_other taken pick b n.1))
      (eqb_tells pick.block b)

  pub AreChosen-more : (taken : List Pick) → AreChosen calls m old taken → Chooses calls m old new pick true → AreChosen calls m new (taken ++ pick ∷ [])
  AreChosen-more taken h c =
      let blank : List (List ℕ) = replicate (length old) [] in
      let blanks : length blank ≡ length old = length-replicate {A = List ℕ} (length old) [] in
      let mine : IsPick (record_from blank calls) m pick = c.is_pick refl blank blanks in
      let within : pick.block < length old = omega (arith, mine.block, blanks) in
      let free : pick_of taken pick.block ≡ None = sym (h.choices pick.block within) ∙ c.free refl in
      let set : new ≡ slice_set old pick.block (Some pick.loose) = c.chosen refl in
      record {
        are_picks = λ entry e.
            let e' : length entry ≡ length old = omega (arith, ap length set, length-set old pick.block (Some pick.loose)) in
            let were : ArePicks (record_from entry calls) m taken = h.are_picks entry e' in
            record {
              moment = were.moment;
              each = All-push (IsPick (record_from entry calls) m) taken pick were.each (c.is_pick refl entry e');
              once = all_pairs_push (λ p q. p.block ≢ q.block) taken pick were.once (pick_of-free taken pick.block free);
            };
        choices = choices-more taken h c free;
      }

pub AreChosen-refused : (calls : List Call) (m k : ℕ) (old new : List (Option Loose)) (picks : List Pick) (pick : Pick) → k < length picks → pick ≡ get_or picks k pick
    → AreChosen calls m old (take k picks) → Chooses calls m old new pick false → AreNoPicks calls m (length old) picks
AreChosen-refused calls m k old new picks pick lt is h c entry e all =
    let mine : IsPick (record_from entry calls) m pick = subst (λ (p : Pick). IsPick (record_from entry calls) m p) (sym is) (all.each k pick lt) in
    let block : pick.block < length old = omega (arith, mine.block) in
    c.refused refl entry e mine (h.choices pick.block block ∙ pick_of-none (take k picks) pick.block (λ j d below same.
    let j-lt : j < k = omega (arith, below, length-take k picks) in
    let at : get_or (take k picks) j d ≡ get_or picks j d = get_or-take k picks j d j-lt in
    all.once j k pick j-lt lt (ap (λ (p : Pick). p.block) (get_or_default picks j pick d (omega arith) ∙ sym at) ∙ same ∙ ap (λ (p : Pick). p.block) is)))

pub take-more : (picks : List Pick) (k : ℕ) (d : Pick) → k < length picks → take (k + 1) picks ≡ take k picks ++ get_or picks k d ∷ []
take-more picks k d lt = let one : k + 1 ≡ suc k = omega arith in ap (λ (n : ℕ). take n picks) one ∙ take-suc picks k d lt
