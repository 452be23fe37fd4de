-- The fields of a permit, one behind the other, and what is ahead behind some of them.
use Rattle.std.proofs.Common.{◌≡◌, ℕ, zero, suc, ◌^◌, ◌<◌, Bool, true, false, cond, eqb, List, [], ◌∷◌, ◌++◌, length, get_or, drop, Some, None, Option, sym, refl, ap, ◌∙◌, arith}
use Rattle.std.proofs.lemmas.List.{nil_from_length}
use Rattle.std.proofs.lemmas.Bool.{eqb-true, eqb-false}
use Rattle.std.proofs.lemmas.Bool.Decides.{nat_tests}
use Rattle.format.specs.Elements.{framed, written}
use Rattle.format.proofs.Fronts.{same_front}
use Rattle.trust.specs.Chains.{Certificate}
use Rattle.element.specs.declared.walking.Cursor.{Cursor}
use Rattle.element.specs.declared.walking.Element.{Element}
use Rattle.element.specs.Cursors.{ahead, Passes}
use Rattle.element.proofs.Walks.{split}
use Rattle.certificate.specs.Numbers.{big_endian, number_bytes}
use Rattle.certificate.specs.Permits.{flag_bytes, fields_row, InRange}
use Rattle.certificate.specs.inner.Fields.{Numbered, flag_of, SaysField, NextField}
use Rattle.certificate.proofs.Digits.{same_number}

-- fields that say numbers, from a tag on
abbrev pub tagged : ℕ → List ℕ → List ℕ
tagged t [] = []
tagged t (n ∷ ns) = framed t (number_bytes n) ++ tagged (suc t) ns

-- a yes or no as a number
abbrev pub bit : Bool → ℕ
bit b = cond b 1 0

abbrev pub numbers_of : Certificate → List ℕ
numbers_of c = c.subject ∷ (c.issuer ∷ (c.not_before ∷ (c.not_after ∷ (bit c.may_issue ∷ (c.path_len ∷ [])))))

-- the fields behind the first k
abbrev pub past : ℕ → Certificate → List ℕ
past k c = tagged (suc k) (drop k (numbers_of c))

pub bit_bytes : (b : Bool) → number_bytes (bit b) ≡ flag_bytes b
unfolding number_bytes big_endian
bit_bytes true = refl
bit_bytes false = refl

pub fields_are : (c : Certificate) → written (fields_row c) ≡ past 0 c
unfolding written fields_row
fields_are c =
    ap (λ l. framed 1 (number_bytes c.subject) ++ (framed 2 (number_bytes c.issuer) ++ (framed 3 (number_bytes c.not_before) ++ (framed 4 (number_bytes c.not_after) ++ (framed 5 l ++ (framed 6 (number_bytes c.path_len) ++ []))))))
    (sym (bit_bytes c.may_issue))

past_more : (k : ℕ) (c : Certificate) → k < 6 → past k c ≡ framed (suc k) (number_bytes (get_or (numbers_of c) k 0)) ++ past (suc k) c
past_more zero c h = refl
past_more (suc zero) c h = refl
past_more (suc (suc zero)) c h = refl
past_more (suc (suc (suc zero))) c h = refl
past_more (suc (suc (suc (suc zero)))) c h = refl
past_more (suc (suc (suc (suc (suc zero))))) c h = refl
past_more (suc (suc (suc (suc (suc (suc k)))))) c h = absurd (omega arith)

pub bit_below : (b : Bool) → bit b < 2 ^ 32
bit_below true = omega arith
bit_below false = omega arith

pub below : (c : Certificate) → InRange c → (k : ℕ) → get_or (numbers_of c) k 0 < 2 ^ 32
below c h zero = h.subject
below c h (suc zero) = h.issuer
below c h (suc (suc zero)) = h.not_before
below c h (suc (suc (suc zero))) = h.not_after
below c h (suc (suc (suc (suc zero)))) = bit_below c.may_issue
below c h (suc (suc (suc (suc (suc zero))))) = h.path_len
below c h (suc (suc (suc (suc (suc (suc k)))))) = omega arith

-- what a number says that stands for yes or no
bit_flag : (b : Bool) → flag_of (bit b) ≡ None → ⊥
bit_flag true e = let z : ◌≡◌ {A = ℕ} 0 1 = cc in omega arith
bit_flag false e = let z : ◌≡◌ {A = ℕ} 0 1 = cc in omega arith

flag_bit : (n : ℕ) (m : Bool) → Some m ≡ flag_of n → n ≡ bit m
flag_bit n m e = grind (arith, nat_tests)

-- behind the first k fields: whatever certificate the fields from the start say, those ahead are its others
pub record Left (s : Cursor) (k : ℕ) (c : Cursor) : Type 0 where
  pub on : (p : Certificate) → InRange p → written (fields_row p) ≡ ahead s → past k p ≡ ahead c

pub left_start : (s : Cursor) → Left s 0 s
left_start s = record { on = λ p r e. sym (fields_are p) ∙ e }

-- no certificate has the fields that are ahead of a cursor
abbrev pub Fieldless : Cursor → Type 0
Fieldless s = (p : Certificate) → InRange p → written (fields_row p) ≡ ahead s → ⊥

module _ {s c : Cursor} (k : ℕ) (few : k < 6) (left : Left s k c) where
  same_field : {n : ℕ} {d : Cursor} → SaysField c (suc k) n d → (p : Certificate) → InRange p → written (fields_row p) ≡ ahead s → (number_bytes (get_or (numbers_of p) k 0) ≡ number_bytes n) × (past (suc k) p ≡ ahead d)
  same_field {n} {d} says p r e =
      let f = same_front (suc k) (suc k) (number_bytes (get_or (numbers_of p) k 0)) (number_bytes n) (past (suc k) p) (ahead d) (sym (past_more k p few) ∙ left.on p r e ∙ says.front) in
      (f.1, f.2)

  left_more : {n : ℕ} {d : Cursor} → SaysField c (suc k) n d → Left s (suc k) d
  left_more says = record { on = λ p r e. (same_field says p r e).1 }

  pub left_none : ((n : ℕ) (behind : List ℕ) → n < 2 ^ 32 → ahead c ≡ framed (suc k) (number_bytes n) ++ behind → ⊥) → Fieldless s
  left_none none p r e = none (get_or (numbers_of p) k 0) (past (suc k) p) (below p r k) (sym (left.on p r e) ∙ past_more k p few)

  left_same : {n : ℕ} {d : Cursor} → SaysField c (suc k) n d → (p : Certificate) → InRange p → written (fields_row p) ≡ ahead s → get_or (numbers_of p) k 0 ≡ n
  left_same {n} says p r e = same_number (get_or (numbers_of p) k 0) n (below p r k) says.range (same_field says p r e).0

-- a field before those that are ahead of the next cursor
said : {c d : Cursor} {t n : ℕ} (ns : List ℕ) → SaysField c t n d → tagged (suc t) ns ≡ ahead d → tagged t (n ∷ ns) ≡ ahead c
said {c} {d} {t} {n} ns says e = ap (λ l. framed t (number_bytes n) ++ l) e ∙ sym says.front

module _ {s c₁ : Cursor} {n₁ : ℕ} (one : SaysField s 1 n₁ c₁) where
  pub left_1 : Left s 1 c₁
  left_1 = left_more 0 (omega arith) (left_start s) one

  module _ {c₂ : Cursor} {n₂ : ℕ} (two : SaysField c₁ 2 n₂ c₂) where
    pub left_2 : Left s 2 c₂
    left_2 = left_more 1 (omega arith) left_1 two

    module _ {c₃ : Cursor} {n₃ : ℕ} (three : SaysField c₂ 3 n₃ c₃) where
      pub left_3 : Left s 3 c₃
      left_3 = left_more 2 (omega arith) left_2 three

      module _ {c₄ : Cursor} {n₄ : ℕ} (four : SaysField c₃ 4 n₄ c₄) where
        pub left_4 : Left s 4 c₄
        left_4 = left_more 3 (omega arith) left_3 four

        module _ {c₅ : Cursor} {n₅ : ℕ} (five : SaysField c₄ 5 n₅ c₅) where
          pub left_5 : Left s 5 c₅
          left_5 = left_more 4 (omega arith) left_4 five

          -- a fifth field that is no flag
          pub no_flag : None ≡ flag_of n₅ → Fieldless s
          no_flag none p r e = bit_flag p.may_issue (ap flag_of (left_same 4 (omega arith) left_4 five p r e) ∙ sym none)

          module _ {c₆ : Cursor} {n₆ : ℕ} (six : SaysField c₅ 6 n₆ c₆) where
            -- something behind the sixth field
            pub more_behind : eqb (length (ahead c₆)) 0 ≡ false → Fieldless s
            more_behind some p r e = eqb-false (length (ahead c₆)) 0 some (sym (ap length ((left_more 5 (omega arith) left_5 six).on p r e)))

            -- nothing behind it
            pub six_fields : eqb (length (ahead c₆)) 0 ≡ true → (m : Bool) → Some m ≡ flag_of n₅ → tagged 1 (n₁ ∷ (n₂ ∷ (n₃ ∷ (n₄ ∷ (bit m ∷ (n₆ ∷ [])))))) ≡ ahead s
            six_fields none m e =
                ap (λ n. tagged 1 (n₁ ∷ (n₂ ∷ (n₃ ∷ (n₄ ∷ (n ∷ (n₆ ∷ []))))))) (sym (flag_bit n₅ m e))
                ∙ said (n₂ ∷ (n₃ ∷ (n₄ ∷ (n₅ ∷ (n₆ ∷ []))))) one (said (n₃ ∷ (n₄ ∷ (n₅ ∷ (n₆ ∷ [])))) two (said (n₄ ∷ (n₅ ∷ (n₆ ∷ []))) three (said (n₅ ∷ (n₆ ∷ [])) four (said (n₆ ∷ []) five (said [] six (sym (nil_from_length (ahead c₆) (eqb-true (length (ahead c₆)) 0 none))))))))

-- what the element at the front of a cursor makes of the next field
module _ (c : Cursor) (e : Element) (after : Cursor) (p : Passes c e after) (tag : ℕ) where
  same_parts : (n : ℕ) (behind : List ℕ) → ahead c ≡ framed tag (number_bytes n) ++ behind → (e.tag ≡ tag) × (e.contents.now ≡ number_bytes n) × (ahead after ≡ behind)
  same_parts n behind k = same_front e.tag tag e.contents.now (number_bytes n) (ahead after) behind (sym (split p) ∙ k)

  pub field_read : e.tag ≡ tag → (r : Option ℕ) → Numbered e.contents.now r → NextField c tag r after
  field_read same (Some n) h =
      record { range = h.0; front = split p ∙ (λ i. framed (same i) (sym h.1 i) ++ ahead after) }
  field_read same None none = λ n behind h k. none n h (sym (same_parts n behind k).1)

  pub field_other : (e.tag ≡ tag → ⊥) → (n : ℕ) (behind : List ℕ) → ahead c ≡ framed tag (number_bytes n) ++ behind → ⊥
  field_other other n behind k = other (same_parts n behind k).0
