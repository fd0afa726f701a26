-- Rulesets: what code gives of their parameters is the defined part.
use Rattle.std.proofs.Common.{◌≡◌, Bool, true, false, ◌||◌, cond, List, [], ◌∷◌, ◌++◌, Option, None, Some, refl, ap, sym, ◌∙◌}
use Rattle.std.specs.List.{list_any}
use Rattle.std.specs.Str.{bytes_eq}
use Rattle.std.proofs.lemmas.List.{append_assoc}
use Rattle.murphi_ast.specs.declared.token.Span.{Span}
use Rattle.murphi_ast.specs.declared.expr.Bind.{Bind}
use Rattle.murphi_typed.specs.Families.{Name}
use Rattle.murphi_typed.specs.declared.protocol.Parameter.{Parameter}
use Rattle.murphi_typed.specs.declared.types.Simple.{Simple}
use Rattle.murphi_types.specs.declared.fault.Fault.{Fault}
use Rattle.murphi_types.specs.Faults.{sooner, first_fault}
use Rattle.murphi_types.specs.Places.{type_place_of}
use Rattle.murphi_types.specs.Scopes.{binding}
use Rattle.murphi_types.specs.Fitting.{simple_part}
use Rattle.murphi_types.specs.Types.{FoundType, Unnamed, simple_wanted}
use Rattle.murphi_types.specs.Typing.{type_found}
use Rattle.murphi_types.specs.Items.{FoundBinds, seen_past, with_parameter, bind_made, binds_found}
use Rattle.type_parts.specs.declared.context.Context.{Context}
use Rattle.type_parts.specs.declared.judged.JudgedType.{JudgedType}
use Rattle.type_parts.specs.Contexts.{moved, in_scope}
use Rattle.type_parts.proofs.FaultLemmas.{first-append}
use Rattle.type_forms.specs.Writing.{judged_type, simply}
use Rattle.type_expressions.specs.PartsGiven.{type_part}
use Rattle.type_expressions.proofs.PartLemmas.{simple-is}
use Rattle.type_items.specs.declared.gathered.Inside.{Inside}
use Rattle.type_items.specs.Rulesets.{bind_done, bind_with, list_binds, seen}

-- where an item inside stands, with these faults before
abbrev pub inside_of : List Fault → FoundBinds → Inside
inside_of before b =
    record {
      context = record { scope = b.around.scope; known = b.known };
      params = b.around.params;
      fault = first_fault (before ++ b.faults);
    }

more-faults : (fs gs hs : List Fault) → first_fault (fs ++ (gs ++ hs)) ≡ sooner (first_fault (fs ++ gs)) (first_fault hs)
more-faults fs gs hs = ap first_fault (sym (append_assoc fs gs hs)) ∙ first-append (fs ++ gs) hs

done-is : (name : Name) (before : List Fault) (b : FoundBinds) (one : Bind) (f : FoundType) → one.name.name ≡ name →
    inside_of before (bind_made one b f) ≡ bind_done name (judged_type f) f.known (inside_of before b)
done-is name before b one f is =
    ap (λ o. record (inside_of before (bind_made one b f)) { fault = o }) (more-faults before b.faults f.faults)
    ∙ ap (λ n. bind_done n (judged_type f) f.known (inside_of before b)) is

bind-is : (before : List Fault) (b : FoundBinds) (one : Bind) →
    inside_of before (bind_made one b (simple_wanted (type_place_of one.over) (type_found b.around.scope b.known Unnamed one.over))) ≡ bind_with one (inside_of before b)
unfolding type_part
bind-is before b one =
    let t = type_found b.around.scope b.known Unnamed one.over in
    done-is one.name.name before b one (simple_wanted (type_place_of one.over) t) refl
    ∙ ap (λ j. bind_done one.name.name j t.known (inside_of before b)) (simple-is (type_place_of one.over) t)

pub binds-are : (before : List Fault) (bs : List Bind) (b : FoundBinds) → inside_of before (binds_found bs b) ≡ list_binds bs (inside_of before b)
binds-are before [] b = refl
binds-are before (one ∷ rest) b =
    binds-are before rest (bind_made one b (simple_wanted (type_place_of one.over) (type_found b.around.scope b.known Unnamed one.over)))
    ∙ ap (list_binds rest) (bind-is before b one)

pub binds-past : (bs : List Bind) (b : FoundBinds) → (binds_found bs b).around.past ≡ b.around.past
binds-past [] b = refl
binds-past (one ∷ rest) b = binds-past rest (bind_made one b (simple_wanted (type_place_of one.over) (type_found b.around.scope b.known Unnamed one.over)))

pub seen-none : (bs : List Bind) → seen bs None None ≡ None
seen-none bs = refl

seen-step : (one : Bind) (rest : List Bind) (size : Option Name) → seen rest (seen_past one.name.name size) None ≡ seen (one ∷ rest) size None
seen-step one rest None = refl
seen-step one rest (Some name) = go (bytes_eq one.name.name name) refl
  where
    go : (b : Bool) → bytes_eq one.name.name name ≡ b → seen rest (cond b None (Some name)) None ≡ cond (b || list_any (λ (x : Bind). bytes_eq x.name.name name) rest) None (Some name)
    go true is = refl
    go false is = refl

pub binds-size : (bs : List Bind) (b : FoundBinds) → (binds_found bs b).around.size ≡ seen bs b.around.size None
binds-size [] b = go b.around.size
  where
    go : (size : Option Name) → size ≡ seen [] size None
    go None = refl
    go (Some name) = refl
binds-size (one ∷ rest) b =
    binds-size rest (bind_made one b (simple_wanted (type_place_of one.over) (type_found b.around.scope b.known Unnamed one.over)))
    ∙ seen-step one rest b.around.size

-- what the calls for one bind say, put together
pub bound : (one : Bind) (I : Inside) (at : Span) (c e : Context) (j h : JudgedType) (simple : Option Simple) (params : List Parameter) (o : Option Fault) →
    j ≡ type_part (type_found I.context.scope I.context.known Unnamed one.over) → c ≡ moved I.context (type_found I.context.scope I.context.known Unnamed one.over).known →
    at ≡ type_place_of one.over → h ≡ simply at j → simple ≡ simple_part h.of → e ≡ in_scope c (binding c.scope one.name.name simple) →
    params ≡ with_parameter one.name.name simple I.params → o ≡ sooner I.fault h.fault →
    record { context = e; params = params; fault = o } ≡ bind_with one I
bound one I at c e j h simple params o part moves place simply' is enters adds first =
    let t = type_found I.context.scope I.context.known Unnamed one.over in
    let wanted : h ≡ simply (type_place_of one.over) (type_part t) = simply' ∙ ap (λ x. simply x j) place ∙ ap (simply (type_place_of one.over)) part in
    ap (λ x. record { context = x; params = params; fault = o }) enters
    ∙ ap (λ x. record { context = in_scope c (binding c.scope one.name.name simple); params = x; fault = o }) adds
    ∙ ap (λ x. record { context = in_scope c (binding c.scope one.name.name simple); params = with_parameter one.name.name simple I.params; fault = x }) first
    ∙ ap (λ x. record { context = in_scope c (binding c.scope one.name.name x); params = with_parameter one.name.name x I.params; fault = sooner I.fault h.fault }) is
    ∙ ap (λ (x : Context). record { context = in_scope x (binding x.scope one.name.name (simple_part h.of)); params = with_parameter one.name.name (simple_part h.of) I.params; fault = sooner I.fault h.fault }) moves
    ∙ ap (λ (x : JudgedType). bind_done one.name.name x t.known I) wanted

pub ruleset rulesets = (seen-none)
