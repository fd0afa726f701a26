-- Texts of items: their fronts, their rooms, and that they are spelled in one way.
use Rattle.std.proofs.Common.{◌≡◌, ℕ, Bool, true, false, List, [], ◌∷◌, ◌++◌, ◌⊎◌, inl, inr, refl, sym, ap, ◌∙◌, subst, append-nil, append_assoc}
use Rattle.grammar_core.specs.Spelling.{Room, Any, Limit, Spells, Begins}
use Rattle.grammar_core.specs.Spelling.{Begins as b}
use Rattle.grammar_core.proofs.Lists.{compare}
use Rattle.grammar_core.proofs.Fronts.{begun, begins_any, spells_any, front, front_spelled}
use Rattle.murphi_ast.specs.declared.token.Token.{Token}
use Rattle.murphi_grammar.specs.declared.symbol.Symbol.TheVariants as t
use Rattle.murphi_grammar.specs.Symbols.{symbol_of}
use Rattle.murphi_grammar.specs.Names.{Name}
use Rattle.murphi_grammar.specs.Parts.{form}
use Rattle.murphi_grammar.specs.Values.{Value}
use Rattle.murphi_grammar.specs.Grammar.{murphi}
use Rattle.murphi_grammar.specs.Tables.{tables}
use Rattle.murphi_grammar.proofs.Readings.{one_value}
use Rattle.job_files.specs.Files.{IsWord, SpellsText, BeginsText}
use Rattle.job_files.specs.Files.{SpellsText as s}
use Rattle.job_files.specs.Files.{BeginsText as e}
use Rattle.job_files.proofs.Cuts.{closed, one_cut}

-- a word is no end of the text
pub no_word_ends : (word : List ℕ) (x : Token) → IsWord word x → symbol_of x ≡ t.EndOfText → ⊥
no_word_ends word x w h = absurd (names_end (sym w.0 ∙ h))
  where
    names_end : t.Name ≡ t.EndOfText → ⊥
    names_end k = cc

pub same_head : {A : Type 0} {x y : A} {xs ys : List A} → x ∷ xs ≡ y ∷ ys → x ≡ y
same_head e = cc

pub same_tail : {A : Type 0} {x y : A} {xs ys : List A} → x ∷ xs ≡ y ∷ ys → xs ≡ ys
same_tail e = cc

-- what is spelled begins, and any room will do where some room does

pub text_begun : {word : List ℕ} {entry : Name} {r : Room} {us : List Token} {vs : List (Value entry)} → SpellsText word entry r us vs → BeginsText word entry r us
text_begun (s.ended x h) = e.ended x h
text_begun (s.more x w p q h) = e.more x w p (text_begun q) h

pub text_any : {word : List ℕ} {entry : Name} {r : Room} {us : List Token} → BeginsText word entry r us → BeginsText word entry Any us
text_any e.nothing = e.nothing
text_any (e.ended x h) = e.ended x h
text_any (e.part x w p) = e.part x w (begins_any p)
text_any (e.more x w p q h) = e.more x w (spells_any p) (text_any q) h

-- fronts

end_front : {word : List ℕ} {entry : Name} {r : Room} (x : Token) → symbol_of x ≡ t.EndOfText → (vs ws : List Token) → x ∷ [] ≡ vs ++ ws → BeginsText word entry r vs
end_front x h [] ws k = e.nothing
end_front x h (v ∷ []) ws k = e.ended v (ap symbol_of (sym (same_head k)) ∙ h)
end_front x h (v ∷ w ∷ vs) ws k = absurd (cc)

part_front : {word : List ℕ} {entry : Name} {r : Room} {us : List Token} (x : Token) → IsWord word x → Begins murphi r (form entry) us → (vs ws : List Token) → x ∷ us ≡ vs ++ ws → BeginsText word entry r vs
part_front x w p [] ws k = e.nothing
part_front {word} x w p (v ∷ vs) ws k = e.part v (subst (λ z. IsWord word z) (same_head k) w) (front p vs ws (same_tail k))

pub text_front : {word : List ℕ} {entry : Name} {r : Room} {us : List Token} → BeginsText word entry r us → (vs ws : List Token) → us ≡ vs ++ ws → BeginsText word entry r vs
text_front e.nothing [] ws k = e.nothing
text_front e.nothing (v ∷ vs) ws k = absurd (cc)
text_front (e.ended x h) vs ws k = end_front x h vs ws k
text_front (e.part x w p) vs ws k = part_front x w p vs ws k
text_front (e.more x w p q h) [] ws k = e.nothing
text_front {word} {entry} {r} (e.more {us = us1} {vs = vs1} x w p q h) (v ∷ vs) ws k =
    let w' : IsWord word v = subst (λ z. IsWord word z) (same_head (sym h ∙ k)) w in
    go w' (compare us1 vs1 vs ws (same_tail (sym h ∙ k))) (λ d n. text_front q d ws n)
  where
    go : IsWord word v → ((d : List Token) × (vs ≡ us1 ++ d) × (vs1 ≡ d ++ ws)) ⊎ ((d : List Token) × (us1 ≡ vs ++ d) × (ws ≡ d ++ vs1)) → ((d : List Token) → vs1 ≡ d ++ ws → BeginsText word entry r d) → BeginsText word entry r (v ∷ vs)
    go w' (inl (d, m, n)) later = e.more v w' p (later d n) (ap (λ z. v ∷ z) m)
    go w' (inr (d, m, n)) later = e.part v w' (front_spelled p vs d m)

-- one list of items

pub one_text : {word : List ℕ} {entry : Name} {r q : Room} {us : List Token} {vs ws : List (Value entry)} → tables.goes_on entry ≡ [] → SpellsText word entry r us vs → SpellsText word entry q us ws → vs ≡ ws
one_text none (s.ended x h) (s.ended y k) = refl
one_text {word} none (s.ended x h) (s.more y w p z k) = absurd (no_word_ends word x (subst (λ z. IsWord word z) (sym (same_head k)) w) h)
one_text {word} none (s.more x w p z k) (s.ended y h) = absurd (no_word_ends word y (subst (λ z. IsWord word z) (sym (same_head k)) w) h)
one_text {word} {entry} {r} {q} none (s.more {us = us1} {vs = vs1} {v = v} {items = vs} x w p z k) (s.more {us = us2} {vs = vs2} {v = v'} {items = ws} y w' p' z' k') =
    let c = one_cut none p p' (same_tail (sym k ∙ k')) in
    let first : v ≡ v' = one_value r q entry us1 v v' p (subst (λ l. Spells murphi q (form entry) l v') (sym c.0) p') in
    let rest : vs ≡ ws = one_text none z (subst (λ l. SpellsText word entry q l ws) (sym c.1) z') in
    cc
