-- Client by client, the lines of one client are in the order of its lines.
use Rattle.std.proofs.Common.{◌≡◌, ℕ, zero, suc, ◌+◌, ◌<◌, Bool, cond, List, [], ◌∷◌, ◌++◌, refl, ap, ◌∙◌, arith}
use Rattle.std.specs.Prelude.{All}
use Rattle.std.specs.List.{flat_map, range_with_len}
use Rattle.std.proofs.lemmas.Bool.{eq-eqb, ne_eqb}
use Rattle.std.proofs.lemmas.List.{append-nil}
use Rattle.fx_script.specs.declared.script.Task.{Task}
use Rattle.fx_history.specs.Outcome.{LineEnd}
use Rattle.fx_history.specs.Text.{result_line, result_text}
use Rattle.fx_events.specs.ByClient.{client_text, text_by_client}

abbrev AreOfOne : List Task → Type 0
AreOfOne tasks = All (λ (task : Task). task.client ≡ 1) tasks

rest_of : (task : Task) (tasks : List Task) → AreOfOne (task ∷ tasks) → AreOfOne tasks
rest_of task tasks all = λ i d within. all (suc i) d (omega arith)

own_text : (tasks : List Task) (ends : List LineEnd) → AreOfOne tasks → client_text 1 tasks ends ≡ result_text tasks ends
own_text [] ends all = refl
own_text (task ∷ tasks) [] all = refl
own_text (task ∷ tasks) (end ∷ ends) all =
    ap (λ (b : Bool). cond b (result_line task end) [] ++ client_text 1 tasks ends) (eq-eqb task.client 1 (all 0 task (omega arith)))
    ∙ ap (λ (rest : List ℕ). result_line task end ++ rest) (own_text tasks ends (rest_of task tasks all))

other_text : (client : ℕ) → 1 < client → (tasks : List Task) (ends : List LineEnd) → AreOfOne tasks → client_text client tasks ends ≡ []
other_text client other [] ends all = refl
other_text client other (task ∷ tasks) [] all = refl
other_text client other (task ∷ tasks) (end ∷ ends) all =
    ap (λ (b : Bool). cond b (result_line task end) [] ++ client_text client tasks ends) (ne_eqb task.client client (λ e. absurd (omega (arith, e, all 0 task (omega arith), other))))
    ∙ other_text client other tasks ends (rest_of task tasks all)

no_text : (from count : ℕ) → 1 < from → (tasks : List Task) (ends : List LineEnd) → AreOfOne tasks → flat_map (λ client. client_text client tasks ends) (range_with_len from count) ≡ []
no_text from zero other tasks ends all = refl
no_text from (suc count) other tasks ends all =
    ap (λ (text : List ℕ). text ++ flat_map (λ client. client_text client tasks ends) (range_with_len (from + 1) count)) (other_text from other tasks ends all)
    ∙ no_text (from + 1) count (omega arith) tasks ends all

pub one_client : (tasks : List Task) (ends : List LineEnd) → AreOfOne tasks → text_by_client tasks ends ≡ result_text tasks ends
one_client tasks ends all =
    ap (λ (rest : List ℕ). client_text 1 tasks ends ++ rest) (no_text 2 15 (omega arith) tasks ends all)
    ∙ append-nil (client_text 1 tasks ends) ∙ own_text tasks ends all
