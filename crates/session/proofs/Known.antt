-- Known bytes of a writer that grow part by part.
use Rattle.std.proofs.Common.{◌≡◌, ℕ, List, [], ◌++◌, take, drop, take-append-drop, None, Some, Option, sym, refl, ap, ◌∙◌, subst, append_assoc, append-nil}
use Rattle.std.specs.Io.KnownBytes.{Keeps, Appends}

pub appends_nothing : (a b : Option (List ℕ)) → Keeps a b → Appends a b []
appends_nothing None b h = tt
appends_nothing (Some x) None h = absurd h
appends_nothing (Some x) (Some y) h = h ∙ sym (append-nil x)

pub appends_same : (a : Option (List ℕ)) → Appends a a []
appends_same None = tt
appends_same (Some x) = sym (append-nil x)

pub appends_more : (a b c : Option (List ℕ)) (x y : List ℕ) → Appends a b x → Appends b c y → Appends a c (x ++ y)
appends_more None b c x y h k = tt
appends_more (Some a) None c x y h k = absurd h
appends_more (Some a) (Some b) None x y h k = absurd k
appends_more (Some a) (Some b) (Some c) x y h k = k ∙ ap (λ l. l ++ y) h ∙ append_assoc a x y

-- a front of the bytes is written, and the rest is left
abbrev pub Begun : (bytes rest : List ℕ) → (old new : Option (List ℕ)) → Type 0
Begun bytes rest old new = (front : List ℕ) × (bytes ≡ front ++ rest) × Appends old new front

pub begun_more : (bytes rest left : List ℕ) (n : ℕ) (a b c : Option (List ℕ)) → Begun bytes rest a b → left ≡ drop n rest → Appends b c (take n rest) → Begun bytes left a c
begun_more bytes rest left n a b c i d w =
    (i.0 ++ take n rest, i.1 ∙ ap (λ l. i.0 ++ l) (sym (take-append-drop n rest) ∙ ap (λ l. take n rest ++ l) (sym d)) ∙ sym (append_assoc i.0 (take n rest) left), appends_more a b c i.0 (take n rest) i.2 w)

pub begun_same : (bytes rest left : List ℕ) (a b c : Option (List ℕ)) → Begun bytes rest a b → left ≡ rest → Keeps b c → Begun bytes left a c
begun_same bytes rest left a b c i e k =
    (i.0, i.1 ∙ ap (λ l. i.0 ++ l) (sym e), subst (Appends a c) (append-nil i.0) (appends_more a b c i.0 [] i.2 (appends_nothing b c k)))

pub keeps_same : (a : Option (List ℕ)) → Keeps a a
keeps_same None = tt
keeps_same (Some x) = refl

pub keeps_more : (a b c : Option (List ℕ)) → Keeps a b → Keeps b c → Keeps a c
keeps_more None b c h k = tt
keeps_more (Some x) None c h k = absurd h
keeps_more (Some x) (Some y) None h k = absurd k
keeps_more (Some x) (Some y) (Some z) h k = k ∙ h
