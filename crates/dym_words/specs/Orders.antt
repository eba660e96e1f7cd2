-- The order that a command line asks for.
use Rattle.std.specs.Prelude.{ℕ, Bool, List, [], ◌∷◌, codes, if◌then◌else◌, Option, None, Some, Result, Err, option_and_then}
use Rattle.std.specs.Option.{option_map, ok_or}
use Rattle.dym_base.specs.Names.{is_name}
use Rattle.dym_base.specs.declared.limits.TheConstants.{MOST_OBJECTS, MOST_MADE_COMMANDS, MOST_WORKERS, DEFAULT_WORKERS, MOST_SEGMENTS, DEFAULT_SEGMENTS, MOST_QUANTUM, DEFAULT_QUANTUM}
use Rattle.dym_words.specs.Numbers.{number_of, number_within}
use Rattle.dym_words.specs.Options.{is_text, are_options, values_of, flag_of, number_or}
use Rattle.dym_words.specs.declared.gen_numbers.GenNumbers.{GenNumbers}
use Rattle.dym_words.specs.declared.order.Input.{Input}
use Rattle.dym_words.specs.declared.order.Input.TheVariants as input
use Rattle.dym_words.specs.declared.order.Order.{Order}
use Rattle.dym_words.specs.declared.order.Order.TheVariants.{Plain, Run, Check, Gen, Trace, Save, Load, Views, Late}
use Rattle.dym_words.specs.declared.order.Usage.{Usage}

-- three words that are the seed, the objects and the commands of a made script
abbrev pub made_of : List (List ℕ) → Option GenNumbers
made_of (s ∷ o ∷ c ∷ []) =
    option_and_then (λ seed.
    option_and_then (λ objects.
    option_map (λ commands. record { seed = seed; objects = objects; commands = commands })
    (number_within 0 MOST_MADE_COMMANDS c))
    (number_within 1 MOST_OBJECTS o))
    (number_of s)
made_of ws = None

-- an order of one word
abbrev pub alone : Order → List (List ℕ) → Option Order
alone order [] = Some order
alone order (w ∷ ws) = None

-- the input by the values of the option `--gen`: a made script, or what is read where the option isn't given
abbrev pub input_or : Option (List (List ℕ)) → Option Input
input_or None = Some input.Script
input_or (Some ws) = option_map (λ m. input.Made m.seed m.objects m.commands) (made_of ws)

abbrev pub input_of : List (List ℕ) → Option Input
input_of ws = input_or (values_of (codes "--gen") ws)

abbrev pub summary_of : List (List ℕ) → Option Bool
summary_of ws = flag_of (values_of (codes "--summary") ws)

abbrev pub workers_of : List (List ℕ) → Option ℕ
workers_of ws = number_or MOST_WORKERS DEFAULT_WORKERS (values_of (codes "--workers") ws)

abbrev pub segments_of : List (List ℕ) → Option ℕ
segments_of ws = number_or MOST_SEGMENTS DEFAULT_SEGMENTS (values_of (codes "--segments") ws)

abbrev pub quantum_of : List (List ℕ) → Option ℕ
quantum_of ws = number_or MOST_QUANTUM DEFAULT_QUANTUM (values_of (codes "--quantum") ws)

abbrev pub plain_options : List (List ℕ)
plain_options = codes "--summary" ∷ codes "--gen" ∷ []

abbrev pub run_options : List (List ℕ)
run_options = codes "--workers" ∷ codes "--segments" ∷ codes "--quantum" ∷ codes "--summary" ∷ codes "--gen" ∷ []

abbrev pub views_options : List (List ℕ)
views_options = codes "--workers" ∷ codes "--segments" ∷ codes "--quantum" ∷ []

abbrev pub plain : List (List ℕ) → Option Order
plain ws =
    if are_options plain_options ws
    then option_and_then (λ i. option_map (λ s. Plain i s) (summary_of ws)) (input_of ws)
    else None

abbrev pub run : List (List ℕ) → Option Order
run ws =
    if are_options run_options ws
    then
    option_and_then (λ n.
    option_and_then (λ s.
    option_and_then (λ q.
    option_and_then (λ i.
    option_map (λ sum. Run n s q i sum) (summary_of ws))
    (input_of ws)) (quantum_of ws)) (segments_of ws)) (workers_of ws)
    else None

abbrev pub views : List (List ℕ) → Option Order
views ws =
    if are_options views_options ws
    then
    option_and_then (λ n. option_and_then (λ s. option_map (λ q. Views n s q) (quantum_of ws)) (segments_of ws)) (workers_of ws)
    else None

abbrev pub made : List (List ℕ) → Option Order
made ws = option_map (λ m. Gen m.seed m.objects m.commands) (made_of ws)

abbrev pub save : List (List ℕ) → Option Order
save (w ∷ []) = if is_name w then Some (Save w) else None
save ws = None

abbrev pub load : List (List ℕ) → Option Order
load [] = Some (Load None)
load (w ∷ []) = option_map (λ t. Load (Some t)) (number_of w)
load (w ∷ x ∷ xs) = None

-- the order by its first word
abbrev pub form_of : List ℕ → List (List ℕ) → Option Order
form_of word ws =
    if is_text (codes "plain") word then plain ws
    else (if is_text (codes "run") word then run ws
    else (if is_text (codes "check") word then alone Check ws
    else (if is_text (codes "gen") word then made ws
    else (if is_text (codes "trace") word then alone Trace ws
    else (if is_text (codes "save") word then save ws
    else (if is_text (codes "load") word then load ws
    else (if is_text (codes "views") word then views ws
    else (if is_text (codes "late") word then alone Late ws
    else None))))))))

-- the order that the words have the form of, or `Usage` where they have none
abbrev pub order : List (List ℕ) → Result Order Usage
order [] = Err (record {})
order (w ∷ ws) = ok_or (form_of w ws) (record {})
