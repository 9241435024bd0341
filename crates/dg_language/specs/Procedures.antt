-- Procedures, by proc(n): how their parameters are read, and how a call binds them.
use Rattle.std.specs.Prelude.{ℕ, Bool, true, false, ◌&&◌, ◌||◌, Option, Some, None, List, [], ◌∷◌, ◌++◌, length, nat_lt, nat_eq, codes, Result, Ok, Err}
use Rattle.std.specs.Cmp.Lexicographic.{pointwise}
use Rattle.dg_lists.specs.Canonical.{text_of_list}
use Rattle.dg_scope.specs.Names.{has_index, base_of}
use Rattle.dg_language.specs.declared.completion.Change.TheVariants.{Defines}
use Rattle.dg_language.specs.declared.procedure.Binding.{Binding}
use Rattle.dg_language.specs.declared.procedure.Parameter.{Parameter}
use Rattle.dg_language.specs.declared.procedure.Procedure.{Procedure}
use Rattle.dg_language.specs.Play.{Play}
use Rattle.dg_language.specs.State.{State, entered, departed}
use Rattle.dg_language.specs.Evaluation.{Ending, Then, Nested, within, fail, quoted, outside, wrong_count, list_in}
use Rattle.dg_language.specs.Arguments.{three}
use Rattle.dg_language.specs.Completing.{Immediately, does, counted}

-- whether a name has `::` in it
abbrev pub has_colons : List ℕ → Bool
has_colons [] = false
has_colons (b ∷ []) = false
has_colons (b ∷ c ∷ bs) = (nat_eq b 58 && nat_eq c 58) || has_colons (c ∷ bs)

-- why a name can't be a parameter's
abbrev pub name_fault : List ℕ → Option (List ℕ)
name_fault [] = Some (codes "argument with no name")
name_fault (b ∷ bs) =
    elim (has_colons (base_of (b ∷ bs))) [
      | true ↦ Some (codes "formal parameter " ++ (quoted (b ∷ bs) ++ codes " is not a simple name"))
      | false ↦ elim (has_index (b ∷ bs)) [
        | true ↦ Some (codes "formal parameter " ++ (quoted (b ∷ bs) ++ codes " is an array element"))
        | false ↦ None
      ]
    ]

abbrev pub named : List ℕ → Option (List ℕ) → Option (List ℕ) → Result Parameter (List ℕ)
named n default (Some why) = Err why
named n default None = Ok (record { name = n; default = default })

-- a parameter: a name, and its default if it has one
abbrev pub parameter_of : List ℕ → List (List ℕ) → Result Parameter (List ℕ)
parameter_of text [] = Err (codes "argument with no name")
parameter_of text (n ∷ []) = named n None (name_fault n)
parameter_of text (n ∷ d ∷ []) = named n (Some d) (name_fault n)
parameter_of text (_ ∷ _ ∷ _ ∷ _) = Err (codes "too many fields in argument specifier " ++ quoted text)

abbrev pub read_parameter : List ℕ → Result (List (List ℕ)) (List ℕ) → Result Parameter (List ℕ)
read_parameter text (Err why) = Err why
read_parameter text (Ok fields) = parameter_of text fields

abbrev pub and_parameter : Result Parameter (List ℕ) → Result (List Parameter) (List ℕ) → Result (List Parameter) (List ℕ)
and_parameter (Err why) ps = Err why
and_parameter (Ok p) (Err why) = Err why
and_parameter (Ok p) (Ok ps) = Ok (p ∷ ps)

-- the parameters of these texts, or why the first bad one is none
unfoldable pub parameters : List (List ℕ) → Result (List Parameter) (List ℕ)
parameters [] = Ok []
parameters (t ∷ ts) = and_parameter (read_parameter t (list_in t)) (parameters ts)

abbrev pub parameters_in : Result (List (List ℕ)) (List ℕ) → Result (List Parameter) (List ℕ)
parameters_in (Err why) = Err why
parameters_in (Ok texts) = parameters texts

-- the parameters that a list names
unfoldable pub parameters_of : List ℕ → Result (List Parameter) (List ℕ)
parameters_of text = parameters_in (list_in text)

abbrev pub with_parameters : List ℕ → List ℕ → Result (List Parameter) (List ℕ) → Immediately
with_parameters n body (Err why) = Err why
with_parameters n body (Ok ps) = does (Defines n (record { parameters = ps; body = body }))

-- `proc name parameters body`
unfoldable pub do_proc : List (List ℕ) → Immediately
do_proc args = counted (codes "proc") (three args) (λ a. with_parameters a.0 a.2 (parameters_of a.1))

abbrev pub binding : List ℕ → List ℕ → Binding
binding n v = record { name = n; value = v }

abbrev pub with_default : Option (List ℕ) → Option (List ℕ × List (List ℕ))
with_default None = None
with_default (Some d) = Some (d, [])

-- the value of a parameter, by the next argument or else by default, and the arguments behind it
abbrev pub value_for : Parameter → List (List ℕ) → Option (List ℕ × List (List ℕ))
value_for p (a ∷ more) = Some (a, more)
value_for p [] = with_default p.default

abbrev pub and_binding : Binding → Option (List Binding) → Option (List Binding)
and_binding b None = None
and_binding b (Some bs) = Some (b ∷ bs)

-- whether a parameter, the last one, takes all arguments that are left
abbrev pub collects : Parameter → List Parameter → Bool
collects p [] = pointwise nat_eq p.name (codes "args")
collects p (_ ∷ _) = false

abbrev pub bind_next : Parameter → Option (List ℕ × List (List ℕ)) → (List (List ℕ) → Option (List Binding)) → Option (List Binding)
bind_next p None f = None
bind_next p (Some v) f = and_binding (binding p.name v.0) (f v.1)

-- what a call's arguments are bound to; none if their count is wrong
unfoldable pub bindings : List Parameter → List (List ℕ) → Option (List Binding)
bindings [] [] = Some []
bindings [] (_ ∷ _) = None
bindings (p ∷ ps) args =
    elim (collects p ps) [
      | true ↦ Some (binding p.name (text_of_list args) ∷ [])
      | false ↦ bind_next p (value_for p args) (λ more. bindings ps more)
    ]

-- the length of the longest value
abbrev pub longest : List Binding → ℕ
longest [] = 0
longest (b ∷ bs) = elim (nat_lt (longest bs) (length b.value)) [ true ↦ length b.value | false ↦ longest bs ]

-- the evaluation of a procedure's body in a scope of its own, where its arguments could be bound
abbrev pub call_bound : Nested → Option (List Binding) → List ℕ → List ℕ → State → Then → Play Ending
call_bound nested None name body s k = fail (wrong_count name) s k
call_bound nested (Some bs) name body s k =
    within (longest bs) s (nested body (entered bs s) (λ c v t. outside k c v (departed t)))

-- the call of a procedure
unfoldable pub call : Nested → List ℕ → Procedure → List (List ℕ) → State → Then → Play Ending
call nested name p args s k = call_bound nested (bindings p.parameters args) name p.body s k
