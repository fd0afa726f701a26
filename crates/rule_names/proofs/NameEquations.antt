-- Names of families, one equation for each step of the code.
use Rattle.std.proofs.Common.{◌≡◌, ℕ, suc, ◌+◌, ◌-◌, ◌<◌, ◌≤◌, List, [], ◌∷◌, ◌++◌, map, length, get_or, drop, Option, Some, None, refl, sym, ap, ◌∙◌, subst, append-nil, arith}
use Rattle.term_core.specs.declared.value.Value.{Value}
use Rattle.term_core.specs.Nodes.{nodes_from}
use Rattle.murphi_typed.specs.declared.types.Kind.{Kind}
use Rattle.murphi_typed.specs.declared.types.Simple.{Simple}
use Rattle.murphi_typed.specs.Families.{Over}
use Rattle.murphi_typed.specs.Names.{value_text}
use Rattle.rule_parts.specs.declared.family.Step.{Step}
use Rattle.rule_parts.specs.declared.family.Step.TheVariants as step
use Rattle.rule_inline.specs.Machine.{way_name}
use Rattle.rule_parts.specs.Seen.{seen_step}
use Rattle.rule_names.specs.Texts.{index_text}

pub way_none : (kinds : List Kind) (steps : List Step) (key : List (Option Value)) → length steps ≡ 0 → way_name kinds (map seen_step steps) key ≡ []
way_none kinds [] key e = refl
way_none kinds (s ∷ steps) key e = absurd (omega arith)

pub way_into : (kinds : List Kind) (steps : List Step) (key : List (Option Value)) (name : List ℕ) (d : Step) → 0 < length steps → get_or steps 0 d ≡ step.Into name → way_name kinds (map seen_step steps) key ≡ (46 ∷ name) ++ way_name kinds (map seen_step (drop 1 steps)) key
way_into kinds [] key name d some e = absurd (omega arith)
way_into kinds (s ∷ steps) key name d some e = ap (λ x. way_name kinds (seen_step x ∷ map seen_step steps) key) e

pub way_end : (kinds : List Kind) (steps : List Step) (key : List (Option Value)) (index : Simple) (d : Step) → 0 < length steps → get_or steps 0 d ≡ step.Over index → length key ≡ 0 → way_name kinds (map seen_step steps) key ≡ []
way_end kinds [] key index d some e none = refl
way_end kinds (s ∷ steps) [] index d some e none = ap (λ x. way_name kinds (seen_step x ∷ map seen_step steps) []) e
way_end kinds (s ∷ steps) (v ∷ key) index d some e none = absurd (omega arith)

assoc : {X : Type 0} (xs : List X) (y : X) (zs : List X) → (xs ++ y ∷ []) ++ zs ≡ xs ++ (y ∷ zs)
assoc [] y zs = refl
assoc (x ∷ xs) y zs = ap (λ rest. x ∷ rest) (assoc xs y zs)

over_key : (kinds : List Kind) (index : Simple) (steps : List Step) (part : Option Value) (key : List (Option Value)) → way_name kinds (Over index ∷ map seen_step steps) (part ∷ key) ≡ index_text kinds part ++ way_name kinds (map seen_step steps) key
over_key kinds index steps None key = refl
over_key kinds index steps (Some v) key =
    sym (assoc (91 ∷ value_text kinds v) 93 (way_name kinds (map seen_step steps) key))

pub way_over : (kinds : List Kind) (steps : List Step) (key : List (Option Value)) (index : Simple) (d : Step) (p : Option Value) → 0 < length steps → get_or steps 0 d ≡ step.Over index → 0 < length key → way_name kinds (map seen_step steps) key ≡ index_text kinds (get_or key 0 p) ++ way_name kinds (map seen_step (drop 1 steps)) (drop 1 key)
way_over kinds [] key index d p some e more = absurd (omega arith)
way_over kinds (s ∷ steps) [] index d p some e more = absurd (omega arith)
way_over kinds (s ∷ steps) (v ∷ key) index d p some e more =
    ap (λ x. way_name kinds (seen_step x ∷ map seen_step steps) (v ∷ key)) e ∙ over_key kinds index steps v key

pub names_more : {X : Type 0} (f : ℕ → X) (out out' whole : List X) (n count : ℕ) → n < count → out' ≡ out ++ f n ∷ [] → out ++ map f (nodes_from n (count - n)) ≡ whole → out' ++ map f (nodes_from (n + 1) (count - (n + 1))) ≡ whole
names_more f out out' whole n count less is all =
    let e : count - n ≡ suc (count - suc n) = omega arith in
    let s : n + 1 ≡ suc n = omega arith in
    subst (λ k. out' ++ map f (nodes_from k (count - k)) ≡ whole) (sym s)
    (ap (λ xs. xs ++ map f (nodes_from (suc n) (count - suc n))) is
    ∙ assoc out (f n) (map f (nodes_from (suc n) (count - suc n)))
    ∙ ap (λ k. out ++ map f (nodes_from n k)) (sym e) ∙ all)

pub names_end : {X : Type 0} (f : ℕ → X) (out whole : List X) (n count : ℕ) → count ≤ n → out ++ map f (nodes_from n (count - n)) ≡ whole → out ≡ whole
names_end f out whole n count most all =
    let e : count - n ≡ 0 = omega arith in
    sym (append-nil out) ∙ ap (λ k. out ++ map f (nodes_from n k)) (sym e) ∙ all

pub names_start : {X : Type 0} (f : ℕ → X) (whole : List X) (count : ℕ) → map f (nodes_from 0 count) ≡ whole → [] ++ map f (nodes_from 0 (count - 0)) ≡ whole
names_start f whole count all = let e : count - 0 ≡ count = omega arith in ap (λ k. map f (nodes_from 0 k)) e ∙ all

pub ruleset naming = (way_none, way_into, way_end, way_over)
