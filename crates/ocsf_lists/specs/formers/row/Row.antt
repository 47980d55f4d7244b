-- How a `Row` holds its items, for types that hold a `Row` of themselves: as the list of them.
use Rattle.std.proofs.Common.{◌≡◌, List, [], refl, sym}
use Rattle.std.specs.declared.alloc.Global.{Global}
use Rattle.std.specs.contracts.alloc.Global as allocator
use Rattle.std.specs.contracts.impls.GlobalAllocator.TheImpl.{ghosts}
use Rattle.std.specs.formers.vec.Vec as vec
use mathlib.Core.Former.{Former, this, list, via, children}
use base.Stored.{code_map}
use denote.RattleType.{RattleType}
use denote.HoleLaws.{Alike}
use denote.HolePlaces.{Recodes, struct_places, laid}
use denote.Hole.Carrier.{listed, list-listed}
use denote.Hole.Fix.{over}
use denote.Param.Weighed.{Weighed, w_list}
use denote.Model.Placed.{view_places}
use Rattle.ocsf_lists.specs.declared.row.Row.TheInside.{Inside}
use Rattle.ocsf_lists.specs.declared.row.Row.TheView.{view, invariant}
use Rattle.ocsf_lists.specs.contracts.row.Row.{the_row}
use Rattle.ocsf_lists.specs.contracts.row.Row.TheInside as inside

abbrev pub the_former : Former {0} → Former {0}
the_former = list

abbrev pub the_weighed : {g : Former {0}} → Weighed g → Weighed (the_former g)
the_weighed = w_list

abbrev pub the_empty : List ⊥
the_empty = []

abbrev pub the_items : (X : Type 0) → List X → List X
the_items X items = items

pub the_items_listed : (X : Type 0) (items : List X) → listed _ (children (the_former this) X items) ≡ the_items X items
the_items_listed = list-listed

-- the fields of a `Row`, split as those of the `Vec` in it
abbrev stored : Former {0}
stored =
    via (vec.the_former this Global) Inside (λ X row. row.items) (λ X items. record { items = items })
    (λ X row. refl) (λ X items. refl)

module _ (A B : RattleType) (h : A.Denot → B.Denot) where
  abbrev mapped : List A.Denot → List B.Denot
  mapped = (the_former this).map A.Denot B.Denot h

  pub the_places : Alike A B h → Alike (the_row A) (the_row B) mapped
  the_places alike =
      let fields = struct_places (inside.the_type A) (inside.the_type B) (vec.mapped h, tt) _ (λ row. refl) refl
      (laid _ _ _ (vec.the_places allocator.the_row ghosts A B h alike), tt) in
      view_places stored (list this) view (λ X Y k row. refl) (λ X row. refl) A.Denot B.Denot h
      (the_row A).coded (the_row B).coded
      (invariant A.Denot) (invariant B.Denot) (λ row p q. refl) (λ row p q. refl) (λ row held. tt) (λ row held. tt)
      (over (inside.the_row A)) (over (inside.the_row B)) fields

  pub the_codes_placed : Recodes A B h → Recodes (the_row A) (the_row B) mapped
  the_codes_placed recodes items = sym (code_map A.coded.code B.coded.code h (λ item. sym (recodes item)) items)
