-- What is asked for, what is given, and the answer.
-- for src/imported.rt, src/item.rt, src/linker.rt
use Rattle.std.proofs.Common.{◌≡◌, ℕ, ◌+◌, ◌<◌, Bool, true, false, cond, List, length, map, get_or, All, Option, Some, None, IsSome, option_map, option_and_then, slice_get, refl, sym, ap, ◌∙◌, subst, arith}
use Rattle.std.proofs.lemmas.List.{length-map, get_or-map}
use Rattle.std.proofs.lemmas.List.Elements.{All-map, All-filter}
use Rattle.std.proofs.lemmas.Option.{none-some, same_Some, slice_get-map, slice_get_within}
use Rattle.wasmi_module.specs.Modules.{FuncType, Import, Export, Global as PlainGlobal, Module}
use Rattle.wasmi_module.specs.Valid.{is_of, IsImportWithin, IsValid, counts_of}
use Rattle.wasmi_module.specs.declared.module.ImportType.{ImportType}
use Rattle.wasmi_module.specs.declared.module.Kind.{Kind}
use Rattle.wasmi_module.specs.declared.module.Kind.TheVariants as kinds
use Rattle.wasmi_link_lib.specs.declared.exports.Place.{Place}
use Rattle.wasmi_link_lib.specs.declared.item.Item as rust_item
use Rattle.wasmi_link_lib.specs.declared.item.Item.TheVariants as item
use Rattle.wasmi_link_lib.specs.Lines.{ItemType, Func, Table, Memory, Global, Found, Missing, Differs}
use Rattle.wasmi_link_lib.specs.Linking.{Named, export_named, asked_item, imported_items, own_items, items_of, matches, answer_given}
use Rattle.wasmi_link_lib.specs.inner.Tables.{ImportedItems, all_imported, place_at, place_in, place_of, Keyed, keyed, keyed_of, keyed_matches, key_of, imported_of}
use Rattle.wasmi_link_lib.proofs.Lists.{slice_get_left, slice_get_right, slice_get_map, All_get}
use Rattle.wasmi_link_lib.proofs.Keys.{IsKeyed, keyed-matches}

-- ---- imports, and what is a module's own

-- an import of a kind has one of the module's types
pub imported_within : (m : Module) (kind : Kind) (i : ℕ) (x : ImportType) → IsValid m → slice_get (imported_of kind m) i ≡ Some x → IsImportWithin (counts_of m) x
imported_within m kind i x valid is =
    All_get (IsImportWithin (counts_of m)) (imported_of kind m) i x
    (All-filter (is_of kind) (IsImportWithin (counts_of m)) (map (λ j. j.item) m.imports) (All-map (IsImportWithin (counts_of m)) (λ (j : Import). j.item) m.imports valid.imports)) is

-- the item of an index is that of an import,
pub imported_item : (m : Module) (kind : Kind) (i : ℕ) (x : ImportType) → slice_get (imported_of kind m) i ≡ Some x → slice_get (items_of m kind) i ≡ Some (asked_item m x)
imported_item m kind i x is = slice_get_left (imported_items m kind) (own_items m kind) i (asked_item m x) (slice_get_map (asked_item m) (imported_of kind m) i (Some x) is)

-- or, past these, one of its own
pub own_item : (m : Module) (kind : Kind) (i j : ℕ) → length (imported_of kind m) + j ≡ i → slice_get (items_of m kind) i ≡ slice_get (own_items m kind) j
own_item m kind i j e =
    let same = length-map (imported_of kind m) (asked_item m) in
    slice_get_right (imported_items m kind) (own_items m kind) i j (omega (arith, e, same))

-- a global of its own
global_item : PlainGlobal → ItemType
global_item g = Global g.ty

keyed_global : {X : Type 0} (types : List FuncType) (f : X → PlainGlobal) (o : Option X) → option_map (λ x. record { type = Global (f x).ty; key = None }) o ≡ option_map (keyed types) (option_map global_item (option_map f o))
unfolding global_item
keyed_global types f None = refl
keyed_global types f (Some x) = refl

pub own_global : {X : Type 0} (types : List FuncType) (m : Module) (kind : Kind) (f : X → PlainGlobal) (xs : List X) (i : ℕ) (o : Option X) → kind ≡ kinds.Global → m.globals ≡ map f xs → slice_get xs i ≡ o
    → option_map (λ x. record { type = Global (f x).ty; key = None }) o ≡ option_map (keyed types) (slice_get (own_items m kind) i)
unfolding global_item
own_global types m kind f xs i o is_kind globals is =
    keyed_global types f o
    ∙ sym (ap (λ k. option_map (keyed types) (slice_get (own_items m k) i)) is_kind ∙ ap (λ gs. option_map (keyed types) (slice_get (map global_item gs) i)) globals
    ∙ ap (option_map (keyed types)) (slice_get_map global_item (map f xs) i (option_map f o) (slice_get_map f xs i o is)))

-- ---- what a module exports

bodies : {Y : Type 0} (f : Module → Y) (o : Option Named) → option_map (λ m. f m.body) o ≡ option_map f (option_map (λ m. m.body) o)
bodies f None = refl
bodies f (Some m) = refl

-- what the module of a number imports
pub imported_is : {X : Type 0} (view : X → ImportedItems) (items : List X) (modules : List Named) (id : ℕ) (x : X) (m : Module) → map view items ≡ map (λ n. all_imported n.body) modules → slice_get items id ≡ Some x → option_map (λ n. n.body) (slice_get modules id) ≡ Some m → view x ≡ all_imported m
imported_is view items modules id x m has read there =
    same_Some (view x) (all_imported m)
    (sym (slice_get_map view items id (Some x) read) ∙ ap (λ l. slice_get l id) has ∙ slice_get-map (λ (n : Named). all_imported n.body) modules id ∙ bodies all_imported (slice_get modules id) ∙ ap (option_map all_imported) there)

pub imported_there : {X : Type 0} (view : X → ImportedItems) (items : List X) (modules : List Named) (id : ℕ) (m : Module) → map view items ≡ map (λ n. all_imported n.body) modules → option_map (λ n. n.body) (slice_get modules id) ≡ Some m → id < length items
imported_there view items modules id m has there =
    let read : slice_get (map view items) id ≡ Some (all_imported m) =
    ap (λ l. slice_get l id) has ∙ slice_get-map (λ (n : Named). all_imported n.body) modules id ∙ bodies all_imported (slice_get modules id) ∙ ap (option_map all_imported) there in
    let in' : id < length (map view items) = slice_get_within (map view items) id (all_imported m) read in
    let same = length-map items view in
    omega (arith, in', same)

-- where the module of a number has an export
pub place_given : (exports : List ((ℕ × ℕ) × Place)) (modules : List Named) (id symbol : ℕ) (name : List ℕ) (m : Module) → place_in exports id symbol ≡ place_at modules id name → option_map (λ n. n.body) (slice_get modules id) ≡ Some m → place_in exports id symbol ≡ option_map place_of (export_named m name)
place_given exports modules id symbol name m has there =
    has ∙ along (slice_get modules id) ∙ ap (option_and_then (λ (b : Module). option_map place_of (export_named b name))) there
  where
    along : (o : Option Named) → option_and_then (λ n. option_map place_of (export_named n.body name)) o ≡ option_and_then (λ (b : Module). option_map place_of (export_named b name)) (option_map (λ n. n.body) o)
    along None = refl
    along (Some n) = refl

pub exported_at : (m : Module) (place : Place) (o : Option Export) → Some place ≡ option_map place_of o → slice_get (items_of m place.kind) place.index ≡ option_and_then (λ e. slice_get (items_of m e.kind) e.index) o
exported_at m place None is = absurd (none-some place (sym is))
exported_at m place (Some e) is = ap (λ (p : Place). slice_get (items_of m p.kind) p.index) (same_Some place (place_of e) is)

pub exported_none : (m : Module) (o : Option Export) → None ≡ option_map place_of o → None ≡ option_and_then (λ e. slice_get (items_of m e.kind) e.index) o
exported_none m None is = refl
exported_none m (Some e) is = absurd (none-some (place_of e) is)

-- ---- keys

is_func : ItemType → Bool
is_func (Func type) = true
is_func (Table type) = false
is_func (Memory type) = false
is_func (Global type) = false

-- an item whose type is that of a function has a key
item_key : {Z : Type 0} (x : rust_item.Item Z) → is_func (keyed_of x).type ≡ true → IsSome (keyed_of x).key
unfolding is_func
item_key (item.Func id type) is = refl
item_key (item.Table type) is = is
item_key (item.Memory type) is = is
item_key (item.Global type) is = is

module _ (types : List FuncType) where
  pub keyed-type : (x : ItemType) → (keyed types x).type ≡ x
  keyed-type (Func type) = refl
  keyed-type (Table type) = refl
  keyed-type (Memory type) = refl
  keyed-type (Global type) = refl

  keyed_if_func : (x : ItemType) → (is_func x ≡ true → IsSome (keyed types x).key) → IsKeyed types x
  unfolding is_func
  keyed_if_func (Func type) is = is refl
  keyed_if_func (Table type) is = tt
  keyed_if_func (Memory type) is = tt
  keyed_if_func (Global type) is = tt

  -- an item that has the key of its type has one
  pub is_keyed : {Z : Type 0} (x : rust_item.Item Z) (y : ItemType) → keyed_of x ≡ keyed types y → IsKeyed types y
  is_keyed x y is =
      keyed_if_func y (λ f. subst (λ (k : Keyed). IsSome k.key) is (item_key x (ap is_func (ap (λ (k : Keyed). k.type) is ∙ keyed-type y) ∙ f)))

  -- ---- the answer

  none_given : (o : Option ItemType) → None ≡ option_map (keyed types) o → o ≡ None
  none_given None is = refl
  none_given (Some x) is = absurd (none-some _ is)

  pub missing : (asked : ItemType) (name : List ℕ) (o : Option ItemType) → None ≡ option_map (keyed types) o → Missing ≡ answer_given asked name o
  missing asked name o is = sym (ap (answer_given asked name) (none_given o is))

  -- what was given, with its type and whether it matches
  module _ {Z : Type 0} (x y : rust_item.Item Z) (asked : ItemType) (is_asked : keyed_of x ≡ keyed types asked) where
    pub answered : (name : List ℕ) (o : Option ItemType) → Some (keyed_of y) ≡ option_map (keyed types) o → cond (keyed_matches (keyed_of x) (keyed_of y)) (Found name) (Differs name (keyed_of y).type) ≡ answer_given asked name o
    answered name None is = absurd (none-some _ (sym is))
    answered name (Some given) is =
        let is_given : keyed_of y ≡ keyed types given = same_Some (keyed_of y) (keyed types given) is in
        let tested : keyed_matches (keyed_of x) (keyed_of y) ≡ matches asked given =
        (λ i. keyed_matches (is_asked i) (is_given i)) ∙ keyed-matches types asked given (is_keyed x asked is_asked) (is_keyed y given is_given) in
        let type : (keyed_of y).type ≡ given = ap (λ (k : Keyed). k.type) is_given ∙ keyed-type given in
        λ i. cond (tested i) (Found name) (Differs name (type i))

-- ---- types by index

-- the type that is read has a key
pub key_at : {X : Type 0} (f : X → FuncType) (types : List FuncType) (xs : List X) (i : ℕ) (x : X) → All (λ t. IsSome (key_of types t)) (map f xs) → i < length (map f xs) → x ≡ get_or xs i x → IsSome (key_of types (f x))
key_at f types xs i x has in' is =
    let in_xs : i < length xs = omega (arith, in', length-map xs f) in
    subst (λ t. IsSome (key_of types t)) (get_or-map f xs i x (f x) in_xs ∙ ap f (sym is)) (has i (f x) in')
