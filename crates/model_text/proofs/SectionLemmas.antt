-- What one more line makes of the sections of a text.
use Rattle.std.proofs.Common.{◌≡◌, ℕ, false, cond, List, [], ◌∷◌, ◌++◌, refl, ap, ◌∙◌}
use Rattle.model_text.specs.ModelLines.{ModelLine, component, state, transition, event}
use Rattle.model_text.specs.ModelNetwork.{begins_component, before_component, Section, sections, last_lines}

-- a section has one more line where no section comes after it
abbrev grown_before : List Section → List ModelLine → ModelLine → List ModelLine
grown_before [] lines line = lines ++ line ∷ []
grown_before (next ∷ more) lines line = lines

grown_before-cons : (later : List Section) (first : ModelLine) (lines : List ModelLine) (line : ModelLine) → first ∷ grown_before later lines line ≡ grown_before later (first ∷ lines) line
grown_before-cons [] first lines line = refl
grown_before-cons (next ∷ more) first lines line = refl

before_component-push : (lines : List ModelLine) (line : ModelLine) → begins_component line ≡ false → before_component (lines ++ line ∷ []) ≡ grown_before (sections lines) (before_component lines) line
before_component-push [] line h = ap (λ b. cond b [] (line ∷ [])) h
before_component-push (component name ∷ lines) line h = refl
before_component-push (state name initial ∷ lines) line h = ap (λ ls. state name initial ∷ ls) (before_component-push lines line h) ∙ grown_before-cons (sections lines) (state name initial) (before_component lines) line
before_component-push (transition from action to ∷ lines) line h = ap (λ ls. transition from action to ∷ ls) (before_component-push lines line h) ∙ grown_before-cons (sections lines) (transition from action to) (before_component lines) line
before_component-push (event name label fault parts ∷ lines) line h = ap (λ ls. event name label fault parts ∷ ls) (before_component-push lines line h) ∙ grown_before-cons (sections lines) (event name label fault parts) (before_component lines) line

-- the last element is changed
abbrev pub on_last : {X : Type 0} → (X → X) → List X → List X
on_last f [] = []
on_last f (x ∷ []) = f x ∷ []
on_last f (x ∷ y ∷ xs) = x ∷ on_last f (y ∷ xs)

abbrev pub with_line : ModelLine → Section → Section
with_line line section = record section { lines = section.lines ++ line ∷ [] }

first_grown : (name : List ℕ) (lines : List ModelLine) (line : ModelLine) (later : List Section)
    → record { name = name; lines = grown_before later lines line } ∷ on_last (with_line line) later ≡ on_last (with_line line) (record { name = name; lines = lines } ∷ later)
first_grown name lines line [] = refl
first_grown name lines line (next ∷ more) = refl

-- a line that begins no component is one more of the last section
pub sections-push : (lines : List ModelLine) (line : ModelLine) → begins_component line ≡ false → sections (lines ++ line ∷ []) ≡ on_last (with_line line) (sections lines)
sections-push [] (component name) h = cc
sections-push [] (state name initial) h = refl
sections-push [] (transition from action to) h = refl
sections-push [] (event name label fault parts) h = refl
sections-push (component name ∷ lines) line h =
    (λ i. record { name = name; lines = before_component-push lines line h i } ∷ sections-push lines line h i) ∙ first_grown name (before_component lines) line (sections lines)
sections-push (state name initial ∷ lines) line h = sections-push lines line h
sections-push (transition from action to ∷ lines) line h = sections-push lines line h
sections-push (event name label fault parts ∷ lines) line h = sections-push lines line h

before_component-component : (lines : List ModelLine) (name : List ℕ) → before_component (lines ++ component name ∷ []) ≡ before_component lines
before_component-component [] name = refl
before_component-component (component first ∷ lines) name = refl
before_component-component (state first initial ∷ lines) name = ap (λ ls. state first initial ∷ ls) (before_component-component lines name)
before_component-component (transition from action to ∷ lines) name = ap (λ ls. transition from action to ∷ ls) (before_component-component lines name)
before_component-component (event first label fault parts ∷ lines) name = ap (λ ls. event first label fault parts ∷ ls) (before_component-component lines name)

-- a component begins a section without lines
pub sections-component : (lines : List ModelLine) (name : List ℕ) → sections (lines ++ component name ∷ []) ≡ sections lines ++ record { name = name; lines = [] } ∷ []
sections-component [] name = refl
sections-component (component first ∷ lines) name = λ i. record { name = first; lines = before_component-component lines name i } ∷ sections-component lines name i
sections-component (state first initial ∷ lines) name = sections-component lines name
sections-component (transition from action to ∷ lines) name = sections-component lines name
sections-component (event first label fault parts ∷ lines) name = sections-component lines name

pub on_last-push : {X : Type 0} (f : X → X) (front : List X) (last : X) → on_last f (front ++ last ∷ []) ≡ front ++ f last ∷ []
on_last-push f [] last = refl
on_last-push f (x ∷ []) last = refl
on_last-push f (x ∷ y ∷ front) last = ap (λ l. x ∷ l) (on_last-push f (y ∷ front) last)

pub last_lines-push : (front : List Section) (last : Section) → last_lines (front ++ last ∷ []) ≡ last.lines
last_lines-push [] last = refl
last_lines-push (x ∷ []) last = refl
last_lines-push (x ∷ y ∷ front) last = last_lines-push (y ∷ front) last

-- a list that has a last element
pub record Ends {X : Type 0} (xs : List X) : Type 0 where
  pub front : List X
  pub last : X
  pub is : xs ≡ front ++ last ∷ []

pub ends : {X : Type 0} (x : X) (xs : List X) → Ends (x ∷ xs)
ends x [] = record { front = []; last = x; is = refl }
ends x (y ∷ xs) = let e = ends y xs in record { front = x ∷ e.front; last = e.last; is = ap (λ l. x ∷ l) e.is }
