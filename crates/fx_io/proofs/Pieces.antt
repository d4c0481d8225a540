-- A run of calls that give or take one piece after another.
use Rattle.std.proofs.Common.{◌≡◌, ℕ, ◌+◌, ◌≤◌, List, [], ◌++◌, refl, sym, ap, subst, ◌∙◌, length, take, drop, append_assoc}
use Rattle.std.proofs.lemmas.List.{append-nil, take-append-drop, drop-drop}
use Rattle.std.proofs.Math.Seq.{take-append-add, take-append_seam}
use Rattle.std.specs.Prelude.{Option, None, Some, Result, Ok, Err, OnErr}
use Rattle.std.specs.Io.KnownBytes.{prepend_known, append_known}
use Rattle.fx_io.specs.Told.{Gives, GivesAtMost, TakesAll, TakesFront}

pub prepend_known-prepend_known : (x y : List ℕ) (known : Option (List ℕ)) → prepend_known x (prepend_known y known) ≡ prepend_known (x ++ y) known
prepend_known-prepend_known x y None = refl
prepend_known-prepend_known x y (Some rest) = ap Some (sym (append_assoc x y rest))

pub append_known-append_known : (known : Option (List ℕ)) (x y : List ℕ) → append_known (append_known known x) y ≡ append_known known (x ++ y)
append_known-append_known None x y = refl
append_known-append_known (Some text) x y = ap Some (append_assoc text x y)

pub gives_none : (now : Option (List ℕ)) → Gives now now []
gives_none None = refl
gives_none (Some rest) = refl

pub gives_more : (before between now : Option (List ℕ)) (x y : List ℕ) → Gives before between x → Gives between now y → Gives before now (x ++ y)
gives_more before between now x y p q = p ∙ ap (prepend_known x) q ∙ prepend_known-prepend_known x y now

pub takes_none : (now : Option (List ℕ)) → TakesAll now now []
takes_none None = refl
takes_none (Some text) = ap Some (sym (append-nil text))

pub takes_more : (before between now : Option (List ℕ)) (x y : List ℕ) → TakesAll before between x → TakesAll between now y → TakesAll before now (x ++ y)
takes_more before between now x y p q = q ∙ ap (λ known. append_known known y) p ∙ append_known-append_known before x y

-- The sink has taken the bytes of the text that stand before the rest.
pub record Written (before now : Option (List ℕ)) (text rest : List ℕ) : Type 0 where
  pub done : List ℕ
  pub whole : text ≡ done ++ rest
  pub taken : TakesAll before now done

pub written_none : (before : Option (List ℕ)) (text : List ℕ) → Written before before text text
written_none before text = record { done = []; whole = refl; taken = takes_none before }

pub written_more : (before between now : Option (List ℕ)) (text rest : List ℕ) (n : ℕ) → Written before between text rest → TakesAll between now (take n rest)
    → Written before now text (drop n rest)
written_more before between now text rest n w p = record {
  done = w.done ++ take n rest;
  whole = w.whole ∙ ap (λ r. w.done ++ r) (sym (take-append-drop n rest)) ∙ sym (append_assoc w.done (take n rest) (drop n rest));
  taken = takes_more before between now w.done (take n rest) w.taken p;
}

pub written_all : (before now : Option (List ℕ)) (text rest : List ℕ) → rest ≡ [] → Written before now text rest → TakesAll before now text
written_all before now text rest e w = subst (TakesAll before now) (sym (w.whole ∙ ap (λ r. w.done ++ r) e ∙ append-nil w.done)) w.taken

pub written_front : (before between now : Option (List ℕ)) (text rest : List ℕ) → Written before between text rest → TakesFront between now rest
    → TakesFront before now text
written_front before between now text rest w p =
    (length w.done + p.0, subst (TakesAll before now) (sym (ap (take (length w.done + p.0)) w.whole ∙ take-append-add w.done rest p.0)) (takes_more before between now w.done (take p.0 rest) w.taken p.1))

pub gives_most : (before now : Option (List ℕ)) (bytes : List ℕ) (most : ℕ) → Gives before now bytes → length bytes ≤ most → GivesAtMost before now most
gives_most before now bytes most g h = (length bytes, h, (bytes, g, refl))

-- What a source in memory had left is what it copied, and then the rest.
pub memory_gives : (text into copied : List ℕ) (given count : ℕ) → copied ≡ take count (drop given text) → length copied ≡ count
    → drop given text ≡ take count (copied ++ drop count into) ++ drop (given + count) text
memory_gives text into copied given count e h =
    let front : take count (copied ++ drop count into) ≡ copied = rw (← h) (take-append_seam copied (drop (length copied) into)) in
    sym (ap (λ t. t ++ drop (given + count) text) (front ∙ e) ∙ ap (λ t. take count (drop given text) ++ t) (sym (drop-drop count given text)) ∙ take-append-drop count (drop given text))

-- A sink that keeps what it had has taken the first 0 bytes.
pub takes_nothing : {E : Type 0} (r : Result ℕ E) (before now piece : List ℕ) → OnErr r (now ≡ before) → OnErr r (TakesFront (Some before) (Some now) piece)
takes_nothing (Ok n) before now piece e = tt
takes_nothing (Err f) before now piece e = (0, ap Some (e ∙ sym (append-nil before)))
