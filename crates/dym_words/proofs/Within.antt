-- A script that an order makes is within the limits.
use Rattle.std.proofs.Common.{◌≡◌, ℕ, ◌≤◌, Bool, true, false, List, [], ◌∷◌, codes, Option, Some, None, IfSome, IfOk, refl, arith}
use Rattle.std.specs.Prelude.{⊤, nat_le, ◌&&◌, option_and_then, if◌then◌else◌}
use Rattle.std.specs.Option.{option_map, ok_or}
use Rattle.std.proofs.lemmas.Bool.Decides.{nat_tests}
use Rattle.dym_base.specs.declared.limits.TheConstants.{MOST_OBJECTS, MOST_MADE_COMMANDS, MOST_WORKERS, DEFAULT_WORKERS, MOST_SEGMENTS, DEFAULT_SEGMENTS, MOST_QUANTUM, DEFAULT_QUANTUM}
use Rattle.dym_base.specs.Names.{is_name}
use Rattle.dym_words.specs.Numbers.{number_of, number_within, if_within}
use Rattle.dym_words.specs.Options.{is_text, are_options, values_of, number_or}
use Rattle.dym_words.specs.declared.gen_numbers.GenNumbers.{GenNumbers}
use Rattle.dym_words.specs.declared.order.Order.{Order}
use Rattle.dym_words.specs.declared.order.Order.TheVariants.{Check, Trace, Save, Late}
use Rattle.dym_words.specs.declared.order.Usage.{Usage}
use Rattle.dym_words.specs.Orders.{made_of, alone, input_or, input_of, summary_of, workers_of, segments_of, quantum_of, plain_options, run_options, views_options, plain, run, views, save, load, form_of}
use Rattle.dym_words.specs.Laws.{CanBeMade, CanRun, IsInputWithin, IsWithin, MadeOrdersAreWithin}

-- what holds of each value that a step gives holds of what the steps give
and_then : {X Y : Type 0} (P : X → Type 0) (Q : Y → Type 0) (f : X → Option Y) (o : Option X) → IfSome o P
    → ((x : X) → P x → IfSome (f x) Q) → IfSome (option_and_then f o) Q
and_then P Q f None known step = tt
and_then P Q f (Some x) known step = step x known

mapped : {X Y : Type 0} (P : X → Type 0) (Q : Y → Type 0) (f : X → Y) (o : Option X) → IfSome o P → ((x : X) → P x → Q (f x)) → IfSome (option_map f o) Q
mapped P Q f None known step = tt
mapped P Q f (Some x) known step = step x known

-- of a value of which nothing is known
any : {X : Type 0} (o : Option X) → IfSome o (λ _. ⊤)
any None = tt
any (Some x) = tt

chosen : {X : Type 0} (P : X → Type 0) (b : Bool) (x y : Option X) → IfSome x P → IfSome y P → IfSome (if b then x else y) P
chosen P true x y p q = p
chosen P false x y p q = q

tested : (low high n : ℕ) (b : Bool) → (nat_le low n && nat_le n high) ≡ b → IfSome (if b then Some n else None) (λ m. (low ≤ m) × (m ≤ high))
tested low high n true is = grind (arith, nat_tests)
tested low high n false is = tt

number_fits : (low high : ℕ) (w : List ℕ) → IfSome (number_within low high w) (λ n. (low ≤ n) × (n ≤ high))
number_fits low high w = and_then (λ _. ⊤) (λ n. (low ≤ n) × (n ≤ high)) (if_within low high) (number_of w) (any (number_of w)) (λ n _. tested low high n _ refl)

abbrev FitMade : GenNumbers → Type 0
FitMade m = CanBeMade m.objects m.commands

made_fits : (ws : List (List ℕ)) → IfSome (made_of ws) FitMade
made_fits [] = tt
made_fits (s ∷ []) = tt
made_fits (s ∷ o ∷ []) = tt
made_fits (s ∷ o ∷ c ∷ []) =
    and_then (λ _. ⊤) FitMade _ (number_of s) (any (number_of s)) (λ seed _.
    and_then (λ n. (1 ≤ n) × (n ≤ MOST_OBJECTS)) FitMade _ (number_within 1 MOST_OBJECTS o) (number_fits 1 MOST_OBJECTS o) (λ objects fit.
    mapped (λ n. (0 ≤ n) × (n ≤ MOST_MADE_COMMANDS)) FitMade _ (number_within 0 MOST_MADE_COMMANDS c) (number_fits 0 MOST_MADE_COMMANDS c) (λ commands short.
    record { some = fit.0; objects_fit = fit.1; commands_fit = short.1 })))
made_fits (s ∷ o ∷ c ∷ w ∷ ws) = tt

input_fits : (o : Option (List (List ℕ))) → IfSome (input_or o) IsInputWithin
input_fits None = tt
input_fits (Some ws) = mapped FitMade IsInputWithin _ (made_of ws) (made_fits ws) (λ m fit. fit)

plain_fits : (ws : List (List ℕ)) → IfSome (plain ws) IsWithin
plain_fits ws = chosen IsWithin (are_options plain_options ws) _ None
    (and_then IsInputWithin IsWithin _ (input_of ws) (input_fits (values_of (codes "--gen") ws)) (λ i fit.
    mapped (λ _. ⊤) IsWithin _ (summary_of ws) (any (summary_of ws)) (λ s _. fit)))
    tt

abbrev FitNumber : ℕ → ℕ → Type 0
FitNumber most n = (1 ≤ n) × (n ≤ most)

option_fits : (most default : ℕ) (v : Option (List (List ℕ))) → 1 ≤ default → default ≤ most → IfSome (number_or most default v) (FitNumber most)
option_fits most default None least fit = (least, fit)
option_fits most default (Some []) least fit = tt
option_fits most default (Some (v ∷ [])) least fit = number_fits 1 most v
option_fits most default (Some (v ∷ w ∷ ws)) least fit = tt

can_run : (w s q : ℕ) → FitNumber MOST_WORKERS w → FitNumber MOST_SEGMENTS s → FitNumber MOST_QUANTUM q → CanRun w s q
can_run w s q a b c = record { workers_least = a.0; workers_most = a.1; segments_least = b.0; segments_most = b.1; quantum_least = c.0; quantum_most = c.1 }

workers_fit : (ws : List (List ℕ)) → IfSome (workers_of ws) (FitNumber MOST_WORKERS)
workers_fit ws = option_fits MOST_WORKERS DEFAULT_WORKERS (values_of (codes "--workers") ws) (omega arith) (omega arith)

segments_fit : (ws : List (List ℕ)) → IfSome (segments_of ws) (FitNumber MOST_SEGMENTS)
segments_fit ws = option_fits MOST_SEGMENTS DEFAULT_SEGMENTS (values_of (codes "--segments") ws) (omega arith) (omega arith)

quantum_fits : (ws : List (List ℕ)) → IfSome (quantum_of ws) (FitNumber MOST_QUANTUM)
quantum_fits ws = option_fits MOST_QUANTUM DEFAULT_QUANTUM (values_of (codes "--quantum") ws) (omega arith) (omega arith)

run_fits : (ws : List (List ℕ)) → IfSome (run ws) IsWithin
run_fits ws = chosen IsWithin (are_options run_options ws) _ None
    (and_then (FitNumber MOST_WORKERS) IsWithin _ (workers_of ws) (workers_fit ws) (λ n a.
    and_then (FitNumber MOST_SEGMENTS) IsWithin _ (segments_of ws) (segments_fit ws) (λ s b.
    and_then (FitNumber MOST_QUANTUM) IsWithin _ (quantum_of ws) (quantum_fits ws) (λ q c.
    and_then IsInputWithin IsWithin _ (input_of ws) (input_fits (values_of (codes "--gen") ws)) (λ i fit.
    mapped (λ _. ⊤) IsWithin _ (summary_of ws) (any (summary_of ws)) (λ sum _. (can_run n s q a b c, fit)))))))
    tt

views_fit : (ws : List (List ℕ)) → IfSome (views ws) IsWithin
views_fit ws = chosen IsWithin (are_options views_options ws) _ None
    (and_then (FitNumber MOST_WORKERS) IsWithin _ (workers_of ws) (workers_fit ws) (λ n a.
    and_then (FitNumber MOST_SEGMENTS) IsWithin _ (segments_of ws) (segments_fit ws) (λ s b.
    mapped (FitNumber MOST_QUANTUM) IsWithin _ (quantum_of ws) (quantum_fits ws) (λ q c. can_run n s q a b c))))
    tt

alone_fits : (o : Order) (ws : List (List ℕ)) → IsWithin o → IfSome (alone o ws) IsWithin
alone_fits o [] fit = fit
alone_fits o (w ∷ ws) fit = tt

save_fits : (ws : List (List ℕ)) → IfSome (save ws) IsWithin
save_fits [] = tt
save_fits (w ∷ []) = chosen IsWithin (is_name w) (Some (Save w)) None tt tt
save_fits (w ∷ x ∷ ws) = tt

load_fits : (ws : List (List ℕ)) → IfSome (load ws) IsWithin
load_fits [] = tt
load_fits (w ∷ []) = mapped (λ _. ⊤) IsWithin _ (number_of w) (any (number_of w)) (λ t _. tt)
load_fits (w ∷ x ∷ ws) = tt

form_fits : (word : List ℕ) (ws : List (List ℕ)) → IfSome (form_of word ws) IsWithin
form_fits word ws =
    chosen IsWithin (is_text (codes "plain") word) _ _ (plain_fits ws) (
    chosen IsWithin (is_text (codes "run") word) _ _ (run_fits ws) (
    chosen IsWithin (is_text (codes "check") word) _ _ (alone_fits Check ws tt) (
    chosen IsWithin (is_text (codes "gen") word) _ _ (mapped FitMade IsWithin _ (made_of ws) (made_fits ws) (λ m fit. fit)) (
    chosen IsWithin (is_text (codes "trace") word) _ _ (alone_fits Trace ws tt) (
    chosen IsWithin (is_text (codes "save") word) _ _ (save_fits ws) (
    chosen IsWithin (is_text (codes "load") word) _ _ (load_fits ws) (
    chosen IsWithin (is_text (codes "views") word) _ _ (views_fit ws) (
    chosen IsWithin (is_text (codes "late") word) _ None (alone_fits Late ws tt) tt))))))))

some_is_ok : (o : Option Order) (u : Usage) → IfSome o IsWithin → IfOk (ok_or o u) IsWithin
some_is_ok None u fit = tt
some_is_ok (Some x) u fit = fit

pub orders_are_within : MadeOrdersAreWithin
orders_are_within [] = tt
orders_are_within (w ∷ ws) = some_is_ok (form_of w ws) (record {}) (form_fits w ws)
