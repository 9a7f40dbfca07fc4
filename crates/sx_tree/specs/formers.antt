pub mod member_list
pub mod named_list
