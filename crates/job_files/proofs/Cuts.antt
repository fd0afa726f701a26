-- Where an item ends: what spells an item is no front of what begins one.
use Rattle.std.proofs.Common.{◌≡◌, Bool, true, false, List, [], ◌∷◌, ◌++◌, ◌⊎◌, inl, inr, refl, sym, ap, ◌∙◌, subst, append-nil}
use Rattle.grammar_core.specs.Forms.{Call}
use Rattle.grammar_core.specs.Spelling.{Room, Any, Limit, Spells, Begins}
use Rattle.grammar_core.specs.Test.{is_in}
use Rattle.grammar_core.proofs.Lists.{compare}
use Rattle.grammar_core.proofs.Fronts.{begun, begins_any}
use Rattle.grammar_core.proofs.Determined.{next}
use Rattle.murphi_ast.specs.declared.token.Token.{Token}
use Rattle.murphi_grammar.specs.Names.{Name}
use Rattle.murphi_grammar.specs.Parts.{form}
use Rattle.murphi_grammar.specs.Values.{Value}
use Rattle.murphi_grammar.specs.Grammar.{murphi}
use Rattle.murphi_grammar.specs.Factored.{factored}
use Rattle.murphi_grammar.specs.Tables.{tables}
use Rattle.murphi_grammar.proofs.Decided.{decided}
use Rattle.murphi_grammar.proofs.Agreement.{spelled_there, begun_there}

-- nothing carries on what spells an item
pub closed : {r q : Room} {entry : Name} {us : List Token} {v : Value entry} → tables.goes_on entry ≡ [] → Spells murphi r (form entry) us v → (c : Token) (d : List Token) → Begins murphi q (form entry) (us ++ c ∷ d) → ⊥
unfolding is_in
closed {entry = entry} none p c d z =
    let k = next factored tables decided.fit (spelled_there p) (begun_there z) refl c d refl in
    let h : is_in (tables.number (factored.symbol c)) [] ≡ true = subst (λ l. is_in (tables.number (factored.symbol c)) l ≡ true) none k in
    absurd (cc)

-- a list is cut behind an item in one way
pub one_cut : {r q : Room} {entry : Name} {us vs ws xs : List Token} {v w : Value entry} → tables.goes_on entry ≡ [] → Spells murphi r (form entry) us v → Spells murphi q (form entry) vs w → us ++ ws ≡ vs ++ xs → (us ≡ vs) × (ws ≡ xs)
one_cut {r} {q} {entry} {us} {vs} {ws} {xs} none p z e = go (compare us ws vs xs e)
  where
    longer : (d : List Token) → vs ≡ us ++ d → ws ≡ d ++ xs → (us ≡ vs) × (ws ≡ xs)
    longer [] h k = (sym (append-nil us) ∙ sym h, k)
    longer (c ∷ d) h k = absurd (closed none p c d (subst (λ l. Begins murphi q (form entry) l) h (begun z)))

    shorter : (d : List Token) → us ≡ vs ++ d → xs ≡ d ++ ws → (us ≡ vs) × (ws ≡ xs)
    shorter [] h k = (h ∙ append-nil vs, sym k)
    shorter (c ∷ d) h k = absurd (closed none z c d (subst (λ l. Begins murphi r (form entry) l) h (begun p)))

    go : ((d : List Token) × (vs ≡ us ++ d) × (ws ≡ d ++ xs)) ⊎ ((d : List Token) × (us ≡ vs ++ d) × (xs ≡ d ++ ws)) → (us ≡ vs) × (ws ≡ xs)
    go (inl (d, h, k)) = longer d h k
    go (inr (d, h, k)) = shorter d h k
