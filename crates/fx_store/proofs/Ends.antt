-- How the lines of a mounted disk end.
use Rattle.std.proofs.Common.{◌≡◌, ◌≢◌, ℕ, ◌+◌, true, false, Bool, List, [], ◌∷◌, ◌++◌, length, refl, sym, ap, subst, ◌∙◌, IsOk, is_ok}
use Rattle.std.specs.Prelude.{None, Some, Result, Ok, Err, ◌||◌}
use Rattle.std.specs.List.{list_any}
use Rattle.fx_plain.specs.Table.{do_all, do_from, do_step, go_on, is_reading, refused}
use Rattle.fx_plain.specs.Tree.{Tree}
use Rattle.fx_plain.specs.declared.step.Step.{Step}
use Rattle.fx_plain.specs.declared.step.Answer.{Answer}
use Rattle.fx_plain.specs.declared.step.Refusal.{Refusal}
use Rattle.fx_script.specs.declared.line.Line.TheVariants.{Single, Sync}
use Rattle.fx_script.specs.declared.script.Task.{Task}
use Rattle.fx_journal.specs.Ring.{RingState}
use Rattle.fx_item.specs.declared.full.Full as rings
use Rattle.fx_pool.specs.Region.{Region}
use Rattle.fx_disk.specs.Seen.{DiskSeen}
use Rattle.fx_record.specs.Txns.{txns_of}
use Rattle.fx_history.specs.declared.entry.Entry.{Entry}
use Rattle.fx_history.specs.declared.outcome.EndKind.{EndKind}
use Rattle.fx_history.specs.declared.outcome.EndKind.TheVariants.{Committed, Seen, Refused, Full, Synced, DeviceFault, OutOfMemory}
use Rattle.fx_history.specs.History.{tree_at}
use Rattle.fx_history.specs.Transcript.{EndsNext, steps_of}
use Rattle.fx_store.specs.Line.{EndsAs}
use Rattle.fx_store.specs.Mounted.{Opens}
use Rattle.fx_store.specs.Inside.{IsStore}
use Rattle.fx_store.specs.declared.session.Session.{Session}
use Rattle.fx_store.proofs.Planning.{done_from}
use Rattle.fx_store.proofs.Stores.{current}

refusal-is : (r : Result Answer Refusal) (refusal : Refusal) → refused r ≡ Some refusal → r ≡ Err refusal
refusal-is (Ok answer) refusal e = absurd (cc)
refusal-is (Err other) refusal e = ap Err (cc e)

-- one step that is refused, or done
all-refused : (t : Tree) (step : Step) (refusal : Refusal) → (do_step t step).0 ≡ Err refusal → do_all t (step ∷ []) ≡ Err (1, refusal)
all-refused t step refusal e = ap (λ (r : Result Answer Refusal). go_on 1 r (do_from 2 (do_step t step).1 [])) e

all-done : (t : Tree) (step : Step) (answer : Answer) → (do_step t step).0 ≡ Ok answer → IsOk (do_all t (step ∷ []))
all-done t step answer e = ap (λ (r : Result Answer Refusal). is_ok (go_on 1 r (do_from 2 (do_step t step).1 []))) e

-- the same with equal parts
pub ends-as : (opening : Tree) (base : ℕ) (old new other : List Entry) (task : Task) (n m : ℕ) (kind last : EndKind) → other ≡ new → m ≡ n → last ≡ kind → EndsNext opening base old new task n kind → EndsNext opening base old other task m last
ends-as opening base old new other task n m kind last e f k h =
    subst (λ (es : List Entry). EndsNext opening base old es task m last) (sym e)
    (subst (λ (x : ℕ). EndsNext opening base old new task x last) (sym f)
    (subst (EndsNext opening base old new task n) (sym k) h))

module _ {seen : DiskSeen} {from : ℕ} {s : Session} {ring : RingState} {pool : Region} (h : IsStore seen from s ring pool)
    (opening : Tree) (o : Opens (txns_of s.txns) opening) (task : Task) (step : Step) (line : task.line ≡ Single step) where
  abbrev items : List Entry
  items = s.history.items

  abbrev at : ℕ
  at = s.base + length items

  abbrev there : Tree
  there = tree_at opening items at

  here : s.tree ≡ there
  here = current h opening o

  outcome-there : (do_step there step).0 ≡ (do_step s.tree step).0
  outcome-there = ap (λ (t : Tree). (do_step t step).0) (sym here)

  steps-are : steps_of task.line ≡ step ∷ []
  steps-are = ap steps_of line

  refused-there : (refusal : Refusal) → (do_step s.tree step).0 ≡ Err refusal → do_all there (steps_of task.line) ≡ Err (1, refusal)
  refused-there refusal e = ap (do_all there) steps-are ∙ all-refused there step refusal (outcome-there ∙ e)

  done-there : refused (do_step s.tree step).0 ≡ None → (steps : List Step) → steps ≡ step ∷ [] → IsOk (do_all there steps)
  done-there e steps is = let d = done_from (do_step s.tree step).0 e in subst (λ (xs : List Step). IsOk (do_all there xs)) (sym is) (all-done there step d.0 (outcome-there ∙ d.1))

  no-sync : task.line ≢ Sync
  no-sync e = let f : Single step ≡ Sync = sym line ∙ e in cc

  changing-all : is_reading step ≡ false → list_any is_reading (steps_of task.line) ≡ false
  changing-all e = ap (list_any is_reading) steps-are ∙ ap (λ (b : Bool). b || false) e

  pub ends-look : is_reading step ≡ true → (kind : EndKind) → EndsAs (do_step s.tree step).0 kind → EndsNext opening s.base items items task at kind
  ends-look reading Committed e = absurd e
  ends-look reading (Seen answer) e = (refl, refl, (step, record { alone = line; reading = reading; answers = outcome-there ∙ e }))
  ends-look reading (Refused index refusal) e = (refl, refl, refused-there refusal e.1 ∙ ap (λ (n : ℕ). Err (n, refusal)) (sym e.0))
  ends-look reading (Full full) e = absurd e
  ends-look reading (Synced calls) e = absurd e
  ends-look reading (DeviceFault count) e = absurd e
  ends-look reading OutOfMemory e = (refl, refl, no-sync)

  pub ends-memory : EndsNext opening s.base items items task at OutOfMemory
  ends-memory = (refl, refl, no-sync)

  pub ends-refused : (refusal : Refusal) → refused (do_step s.tree step).0 ≡ Some refusal → EndsNext opening s.base items items task at (Refused 1 refusal)
  ends-refused refusal e = (refl, refl, refused-there refusal (refusal-is (do_step s.tree step).0 refusal e))

  pub ends-full : is_reading step ≡ false → refused (do_step s.tree step).0 ≡ None → (full : rings.Full) → EndsNext opening s.base items items task at (Full full)
  ends-full changing e full = (refl, refl, record { no_sync = no-sync; changing = changing-all changing; done = done-there e (steps_of task.line) steps-are })

  pub ends-commit : is_reading step ≡ false → refused (do_step s.tree step).0 ≡ None → (entry : Entry) → entry ≡ record { number = at + 1; who = task.client; line = task.number; steps = step ∷ []; settled = 0 } → (new : List Entry) → new ≡ items ++ entry ∷ []
      → EndsNext opening s.base items new task (at + 1) Committed
  ends-commit changing e entry is new more = (
    entry,
    more,
    record {
      number = ap (λ (x : Entry). x.number) is;
      who = ap (λ (x : Entry). x.who) is;
      line = ap (λ (x : Entry). x.line) is;
      no_sync = no-sync;
      steps = ap (λ (x : Entry). x.steps) is ∙ sym steps-are;
      changing = changing-all changing;
    },
    ap (λ (x : Entry). x.settled) is,
    refl,
    done-there e entry.steps (ap (λ (x : Entry). x.steps) is),
  )
