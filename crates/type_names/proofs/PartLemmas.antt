-- Parts one after the other.
use Rattle.std.proofs.Common.{◌≡◌, ℕ, Bool, true, false, ◌||◌, List, [], ◌∷◌, ◌++◌, Option, None, Some, refl, ap, sym, ◌∙◌, append_assoc, append-nil}
use Rattle.std.specs.Prelude.{if◌then◌else◌}
use Rattle.std.specs.Str.{bytes_eq}
use Rattle.murphi_ast.specs.declared.token.Span.{Span}
use Rattle.murphi_ast.specs.declared.expr.Named.{Named}
use Rattle.murphi_typed.specs.Families.{Name}
use Rattle.murphi_types.specs.declared.fault.Fault.{Fault}
use Rattle.murphi_types.specs.Faults.{sooner, first_fault}
use Rattle.type_parts.proofs.FaultLemmas.{sooner-assoc, sooner-none, first-append}
use Rattle.murphi_types.specs.Uses.{use_at, unless_hidden}
use Rattle.type_names.specs.declared.scope.Scoped.{Scoped}
use Rattle.type_names.specs.declared.gathered.Gathered.{Gathered}
use Rattle.type_names.specs.Scoping.{all_declared}
use Rattle.type_names.specs.Parts.{Part, no_part, join, seen, added, hidden_by}
use Rattle.type_names.specs.Gathering.{with_use, with_names, with_fault}
use Rattle.type_names.proofs.ScopeLemmas.{all-append}

abbrev pub made : List Span → Scoped → Option Fault → Gathered
made us D f = record { uses = us; global = D; fault = f }

pub alike : (u v : List Span) (C D : Scoped) (f g : Option Fault) → u ≡ v → C ≡ D → f ≡ g → made u C f ≡ made v D g
alike u v C D f g p q r = ap (λ x. made x C f) p ∙ ap (λ x. made v x f) q ∙ ap (λ x. made v D x) r

seen-append : (hidden : Bool) (us vs : List Span) → seen hidden (us ++ vs) ≡ seen hidden us ++ seen hidden vs
seen-append true us vs = refl
seen-append false us vs = refl

seen-none : (hidden : Bool) → seen hidden [] ≡ []
seen-none true = refl
seen-none false = refl

pub joined : (hidden : Bool) (p q : Part) (G : Gathered) → added hidden (join p q) G ≡ added hidden q (added hidden p G)
joined hidden p q G =
    alike (G.uses ++ seen hidden (p.uses ++ q.uses)) ((G.uses ++ seen hidden p.uses) ++ seen hidden q.uses)
    (all_declared G.global (p.names ++ q.names)) (all_declared (all_declared G.global p.names) q.names)
    (sooner G.fault (first_fault (p.faults ++ q.faults))) (sooner (sooner G.fault (first_fault p.faults)) (first_fault q.faults))
    (ap (λ us. G.uses ++ us) (seen-append hidden p.uses q.uses) ∙ sym (append_assoc G.uses (seen hidden p.uses) (seen hidden q.uses)))
    (all-append G.global p.names q.names)
    (ap (sooner G.fault) (first-append p.faults q.faults) ∙ sym (sooner-assoc G.fault (first_fault p.faults) (first_fault q.faults)))

pub nothing : (hidden : Bool) (G : Gathered) → added hidden no_part G ≡ G
nothing hidden G =
    alike (G.uses ++ seen hidden []) G.uses G.global G.global (sooner G.fault None) G.fault
    (ap (λ us. G.uses ++ us) (seen-none hidden) ∙ append-nil G.uses) refl (sooner-none G.fault)

abbrev pub use_part : List Span → Part
use_part us = record { uses = us; names = []; faults = [] }

abbrev pub names_part : List Named → Part
names_part ns = record { uses = []; names = ns; faults = [] }

abbrev pub faults_part : List Fault → Part
faults_part fs = record { uses = []; names = []; faults = fs }

pub used : (hidden : Bool) (name : Name) (w : Named) (G : Gathered) → added hidden (use_part (use_at name w)) G ≡ with_use name hidden w G
used hidden name w G =
    alike (G.uses ++ seen hidden (use_at name w)) (G.uses ++ seen hidden (use_at name w)) G.global G.global (sooner G.fault None) G.fault
    refl refl (sooner-none G.fault)

pub named : (hidden : Bool) (ns : List Named) (G : Gathered) → added hidden (names_part ns) G ≡ with_names ns G
named hidden ns G =
    alike (G.uses ++ seen hidden []) G.uses (all_declared G.global ns) (all_declared G.global ns) (sooner G.fault None) G.fault
    (ap (λ us. G.uses ++ us) (seen-none hidden) ∙ append-nil G.uses) refl (sooner-none G.fault)

pub faulty : (hidden : Bool) (fs : List Fault) (f : Option Fault) (G : Gathered) → first_fault fs ≡ f → added hidden (faults_part fs) G ≡ with_fault f G
faulty hidden fs f G e =
    alike (G.uses ++ seen hidden []) G.uses G.global G.global (sooner G.fault (first_fault fs)) (sooner G.fault f)
    (ap (λ us. G.uses ++ us) (seen-none hidden) ∙ append-nil G.uses) refl (ap (sooner G.fault) e)

-- what something inner hides is not seen
abbrev pub hiding : Name → Named → Part → Part
hiding name bound p = record { uses = unless_hidden name bound p.uses; names = p.names; faults = p.faults }

seen-hidden : (hidden b : Bool) (us : List Span) → seen hidden (if b then [] else us) ≡ seen (hidden || b) us
seen-hidden true b us = refl
seen-hidden false true us = refl
seen-hidden false false us = refl

pub hid : (hidden : Bool) (name : Name) (bound : Named) (p : Part) (G : Gathered) → added hidden (hiding name bound p) G ≡ added (hidden_by hidden name bound) p G
hid hidden name bound p G =
    ap (λ us. made (G.uses ++ us) (all_declared G.global p.names) (sooner G.fault (first_fault p.faults))) (seen-hidden hidden (bytes_eq bound.name name) p.uses)

-- as code tests it
pub use-hidden : (name : Name) (w : Named) (G : Gathered) → with_use name true w G ≡ G
use-hidden name w G = alike (G.uses ++ []) G.uses G.global G.global G.fault G.fault (append-nil G.uses) refl refl

pub ruleset steps = (use-hidden, append-nil)
